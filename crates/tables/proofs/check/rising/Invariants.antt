use Rattle.tables.specs.Rows.{rows}
use Rattle.tables.specs.Walks.{Adjacent}
use Rattle.tables.proofs.check.rising.Given as goal

-- each of the first i keys is below the next
abbrev pub invariant-loop-i : goal.invariant-loop-i
invariant-loop-i l = Adjacent (rows l.w l.n l.t) l.i
