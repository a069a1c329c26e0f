-- `qvm_entry_offset` meets its contract. Assumes nothing.
use mathlib.Core.Path.{◌∙◌, ap}
use mathlib.Core.List.{List}
use Prim.Native.Nat.{ℕ}
use Rattle.gateway.specs.Boundary.{answered_of}
use Rattle.gateway.specs.Words.{offset_words}
use Rattle.gateway.proofs.containers.qvm_entry_offset.Goals as goal

pub returns : goal.returns
returns c =
    c.put.ensures ∙ ap (λ (ws : List ℕ). answered_of ws c.args.answer.now) (c.offset_words-words.ensures ∙ ap offset_words c.entry_offset-o.ensures)
