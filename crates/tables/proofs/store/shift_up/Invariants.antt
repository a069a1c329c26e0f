use mathlib.Core.Path.{◌≡◌}
use Prim.Native.Nat.{◌+◌, ◌≤◌, ◌-◌}
use lib.ListN.{length, drop}
use lib.Seq.{paste}
use Rattle.tables.proofs.store.shift_up.Given as goal

abbrev pub invariant-loop-i : goal.invariant-loop-i
invariant-loop-i l = (l.from ≤ l.i) × (l.i ≤ l.to) × (l.t ≡ paste l.initial.t (l.i + l.by) (drop l.i l.initial.t) (l.to - l.i)) × (length l.t ≡ length l.initial.t)

abbrev pub decreases-loop-i : goal.decreases-loop-i
decreases-loop-i l = l.i
