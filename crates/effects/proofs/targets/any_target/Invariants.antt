use mathlib.Core.Bool.{Bool}
use Rattle.std.proofs.Math.ListN.{length}
use Prim.Native.Nat.{◌≤◌}
use Rattle.effects.specs.Targets.{any_target}
use Rattle.effects.specs.WalkLaws.{Walked}
use Rattle.effects.proofs.targets.any_target.Given as goal

abbrev pub invariant-loop-at : goal.invariant-loop-at
invariant-loop-at l = (l.at ≤ length l.log) × Walked any_target (λ (b : Bool). b) l.log l.at

abbrev pub decreases-loop-at : goal.decreases-loop-at
decreases-loop-at l = l.at
