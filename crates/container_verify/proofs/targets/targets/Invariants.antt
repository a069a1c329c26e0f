use Prim.Native.Nat.{◌-◌}
use lib.ListN.{length}
use Rattle.container_verify.specs.TargetLaws.{Aiming}
use Rattle.container_verify.proofs.targets.targets.Given as goal

abbrev pub invariant-loop-place : goal.invariant-loop-place
invariant-loop-place l = Aiming l.code l.map l.place

abbrev pub decreases-loop-place : goal.decreases-loop-place
decreases-loop-place l = length l.code - l.place
