use Rattle.std.proofs.Math.ListN.{length}
use Prim.Native.Nat.{ℕ, ◌+◌, ◌≤◌}
use Rattle.effects.specs.Counts.{count_of}
use Rattle.effects.specs.WalkLaws.{Walked}
use Rattle.effects.proofs.counts.count.Given as goal

abbrev pub invariant-loop-at : goal.invariant-loop-at
invariant-loop-at l = (l.n + l.at ≤ length l.log) × Walked (count_of l.all) (λ (m : ℕ). l.n + m) l.log l.at

abbrev pub decreases-loop-at : goal.decreases-loop-at
decreases-loop-at l = l.at
