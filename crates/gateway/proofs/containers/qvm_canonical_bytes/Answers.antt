-- `qvm_canonical_bytes` meets its contract. Assumes nothing.
use mathlib.Core.Path.{◌∙◌, ap}
use Rattle.gateway.specs.BoundaryLaws.{untouched, passed}
use Rattle.gateway.specs.Words.{written_words}
use Rattle.gateway.specs.Gateway.{writer_of}
use Rattle.gateway.proofs.containers.qvm_canonical_bytes.Goals as goal

pub returns-then-answer-lt2 : goal.returns-then-answer-lt2
unfolding writer_of written_words
returns-then-answer-lt2 c = untouched _ _ _ _ c.if-answer-lt2.true

pub returns : goal.returns
unfolding writer_of written_words
returns c =
    passed _ _ _ _ _ _ _ _ c.if-answer-lt2.false c.write-w.ensures.output (c.written_words-words.ensures ∙ ap written_words c.write-w.ensures.answer) c.put.ensures
