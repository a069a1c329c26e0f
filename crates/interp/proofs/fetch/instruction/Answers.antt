-- `instruction` meets its contract. Assumes nothing.
use Rattle.interp.specs.Fetched.{instruction_in}
use Rattle.interp.proofs.fetch.instruction.Goals as goal

pub returns-in-Ok : goal.returns-in-Ok
unfolding instruction_in
returns-in-Ok c = rw c.in-Ok.is

pub returns-in-Err : goal.returns-in-Err
unfolding instruction_in
returns-in-Err c = rw c.in-Err.is
