-- `tables::store::shift_up` meets its contract: the bytes from i on stand `by` places up. Assumes nothing.
use Rattle.std.proofs.Common.{arith, length-set}
use Rattle.tables.specs.MoveLaws.{shift_turn, shift_all}
use Rattle.tables.proofs.store.shift_up.Goals as goal

pub loop-i-preserved : goal.loop-i-preserved
loop-i-preserved c =
    let l = c.loop-i in
    (omega arith, omega arith, shift_turn _ _ l.i _ _ _ (omega arith) (omega arith) (omega arith) l.invariant.2, simp length-set l.invariant.3)

pub returns : goal.returns
returns c = let a = c.args in shift_all _ _ c.loop-i.i a.from a.to a.by (omega arith) c.loop-i.invariant.2
