-- `put` meets its contract. Assumes nothing.
use Rattle.interp.proofs.exec.put.Goals as goal

pub returns : goal.returns
returns c = rw (c.set_reg.ensures, c.set_reg-f.ensures)
