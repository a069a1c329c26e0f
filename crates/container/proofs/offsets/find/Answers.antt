-- `find` meets its contract. The loop's invariant: the entries that are left decide. Assumes nothing.
use mathlib.Core.Path.{◌∙◌}
use Rattle.std.specs.Prelude.{◌-◌, ◌+◌}
use Rattle.std.proofs.Math.Nat.{sub-zero}
use native.Mathlib.Omega.{arith}
use Rattle.container.specs.OffsetLaws.{search_begins, search_on, none_there, none_left, found_here}
use Rattle.container.proofs.offsets.find.Goals as goal

pub loop-i-init : goal.loop-i-init
loop-i-init c = rw sub-zero (search_begins _ _ _ _)

pub returns-in_err-e : goal.returns-in_err-e
returns-in_err-e c =
    λ es t k. c.from_residual.ensures ∙ none_there _ _ _ _ _ _ c.loop-i.invariant es t k (omega arith) c.in_err-e.ensures

pub returns-then-e-selector : goal.returns-then-e-selector
returns-then-e-selector c =
    λ es t k. found_here _ _ _ _ _ _ c.loop-i.invariant es t k (omega arith) _ c.in_ok-e.ensures c.if-e-selector.true

pub loop-i-preserved : goal.loop-i-preserved
loop-i-preserved c =
    search_on _ _ _ _ _ _ c.loop-i.invariant (omega arith) _ c.in_ok-e.ensures c.if-e-selector.false (c.args.n - (c.loop-i._i + 1)) (omega arith)

pub returns : goal.returns
returns c = λ es t k. none_left _ _ _ _ _ _ c.loop-i.invariant es t k (omega arith)
