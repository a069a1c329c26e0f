use mathlib.Core.Path.{◌≡◌}
use Prim.Native.Nat.{◌≤◌}
use lib.ListN.{length}
use lib.Seq.{paste}
use Rattle.words.specs.Bytes.{be_bytes}
use Rattle.words.proofs.bytes.write.Given as goal

abbrev pub invariant-loop-i : goal.invariant-loop-i
invariant-loop-i l = (l.i ≤ l.w) × (paste l.initial.t l.at (be_bytes l.w l.v) l.w ≡ paste l.t l.at (be_bytes l.i l.x) l.i) × (length l.t ≡ length l.initial.t)

abbrev pub decreases-loop-i : goal.decreases-loop-i
decreases-loop-i l = l.i
