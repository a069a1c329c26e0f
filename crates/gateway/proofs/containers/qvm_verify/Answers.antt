-- `qvm_verify` meets its contract. Assumes nothing.
use mathlib.Core.Path.{◌∙◌, ap}
use mathlib.Core.List.{List}
use Prim.Native.Nat.{ℕ}
use Rattle.gateway.specs.Boundary.{answered_of}
use Rattle.gateway.specs.Words.{verified_words}
use Rattle.gateway.proofs.containers.qvm_verify.Goals as goal

pub returns : goal.returns
returns c =
    c.put.ensures ∙ ap (λ (ws : List ℕ). answered_of ws c.args.answer.now) (c.verified_words-words.ensures ∙ ap verified_words c.verify-v.ensures)
