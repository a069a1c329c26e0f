use Prim.Native.Nat.{◌-◌}
use lib.ListN.{length}
use Rattle.opening.specs.StartLaws.{StartsLeft}
use Rattle.opening.proofs.unmapped.is_start.Given as goal

abbrev pub invariant-loop-place : goal.invariant-loop-place
invariant-loop-place l = StartsLeft l.code l.offset l.place

abbrev pub decreases-loop-place : goal.decreases-loop-place
decreases-loop-place l = length l.code - l.place
