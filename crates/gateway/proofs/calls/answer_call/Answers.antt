-- `answer_call` meets its contract. Assumes nothing.
use mathlib.Core.Path.{◌∙◌, ap}
use Rattle.interp.specs.Call.{Called}
use Rattle.gateway.specs.BoundaryLaws.{untouched, passed}
use Rattle.gateway.specs.Words.{answer_words}
use Rattle.gateway.specs.Gateway.{gateway_of}
use Rattle.gateway.proofs.calls.answer_call.Goals as goal

pub returns-then-answer-lt-WORDS : goal.returns-then-answer-lt-WORDS
unfolding gateway_of
returns-then-answer-lt-WORDS c = untouched _ _ _ _ c.if-answer-lt-WORDS.true

pub returns : goal.returns
unfolding gateway_of
returns c =
    let e = c.run-a.ensures in
    passed _ _ _ _ _ _ _ _ c.if-answer-lt-WORDS.false (ap (λ (x : Called). x.lent) e) (c.answer_words-words.ensures ∙ ap (λ (x : Called). answer_words x.answer) e) c.put.ensures
