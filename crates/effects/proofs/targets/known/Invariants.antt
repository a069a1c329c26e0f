use Rattle.std.specs.Prelude.{◌≡◌, Bool, ℕ, ◌+◌, ◌≤◌, ◌<◌, length, get_or}
use Rattle.effects.specs.Targets.{known_in}
use Rattle.effects.specs.WalkLaws.{Walked}
use Rattle.effects.proofs.targets.known.Given as goal

abbrev pub invariant-loop-i : goal.invariant-loop-i
invariant-loop-i l = (l.i ≤ length l.target) × ((k : ℕ) → l.i ≤ k → k < length l.target → get_or l.log (l.at + k) 0 ≡ get_or l.target k 0)

abbrev pub decreases-loop-i : goal.decreases-loop-i
decreases-loop-i l = l.i

abbrev pub invariant-walk : goal.invariant-walk
invariant-walk l = (l.at ≤ length l.log) × Walked (known_in (record { kind = l.kind; bytes = l.target })) (λ (b : Bool). b) l.log l.at

abbrev pub decreases-walk : goal.decreases-walk
decreases-walk l = l.at
