-- `refused` meets its contract. Assumes nothing.
use Rattle.interp.proofs.answer.refused.Goals as goal

pub returns : goal.returns
returns c = rw c.new.ensures
