-- `halted` meets its contract. Assumes nothing.
use Rattle.interp.proofs.finish.halted.Goals as goal

pub returns : goal.returns
returns c = rw c.numbered.ensures
