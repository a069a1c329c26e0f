use Prim.Native.Nat.{◌*◌}
use Rattle.tables.specs.Walks.{Agree}
use Rattle.tables.proofs.order.compare.Given as goal

-- the strings agree in their first i words
abbrev pub invariant-loop-i : goal.invariant-loop-i
invariant-loop-i l = Agree l.a l.b (l.i * 8)
