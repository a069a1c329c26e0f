-- `constant` meets its contract. Assumes nothing.
use Rattle.ops_moves.specs.MoveLaws.{constant_stops, constant_sets}
use Rattle.ops_moves.proofs.moves.constant.Goals as goal

pub returns-then-consts-k : goal.returns-then-consts-k
returns-then-consts-k c = rw c.stop.ensures (constant_stops _ c.args.consts.now _ _ c.if-consts-k.true)

pub returns : goal.returns
returns c = rw c.set.ensures (constant_sets _ _ _ _ _ c.if-consts-k.false c.read-v.ensures)
