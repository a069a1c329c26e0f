-- `qvm_change_list` meets its contract. Assumes nothing.
use mathlib.Core.Path.{◌∙◌, ap}
use Rattle.gateway.specs.BoundaryLaws.{untouched, passed}
use Rattle.gateway.specs.Words.{list_words}
use Rattle.gateway.specs.Gateway.{changes_of}
use Rattle.gateway.proofs.settled.qvm_change_list.Goals as goal

pub returns-then-answer-lt2 : goal.returns-then-answer-lt2
unfolding changes_of list_words
returns-then-answer-lt2 c = untouched _ _ _ _ c.if-answer-lt2.true

pub returns : goal.returns
unfolding changes_of list_words
returns c =
    passed _ _ _ _ _ _ _ _ c.if-answer-lt2.false c.change_list-l.ensures.output (c.list_words-words.ensures ∙ ap list_words c.change_list-l.ensures.answer) c.put.ensures
