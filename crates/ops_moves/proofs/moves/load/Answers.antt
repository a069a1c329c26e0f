-- `load` meets its contract. Assumes nothing.
use Rattle.ops_moves.specs.MoveLaws.{loads_on, loads_not}
use Rattle.ops_moves.proofs.moves.load.Goals as goal

pub returns-in-Some : goal.returns-in-Some
returns-in-Some c =
    rw c.set.ensures (loads_on _ _ _ _ _ c.mem_load.ensures _ c.in-Some.is)

pub returns-in-None : goal.returns-in-None
returns-in-None c = rw c.stop.ensures (loads_not _ _ _ _ _ c.mem_load.ensures c.in-None.is)
