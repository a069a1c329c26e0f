use Prim.Native.Nat.{◌-◌}
use Rattle.words.specs.Bytes.{num}
use Rattle.tables.specs.Rows.{rows}
use Rattle.tables.specs.Walks.{Bracket}
use Rattle.tables.proofs.rows.find.Given as goal

abbrev pub invariant-loop-lo : goal.invariant-loop-lo
invariant-loop-lo l = Bracket (rows l.w l.n l.t) (num l.key) l.n l.lo l.hi

abbrev pub decreases-loop-lo : goal.decreases-loop-lo
decreases-loop-lo l = l.hi - l.lo
