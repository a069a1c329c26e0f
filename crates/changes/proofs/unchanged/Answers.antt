-- `changes::unchanged` meets its contract: the value read is the starting value of the key in front. Assumes nothing.
use lib.Dec.{eqb}
use Rattle.tables.specs.Rows.{row_in}
use Rattle.changes.proofs.unchanged.Goals as goal

pub returns : goal.returns
unfolding row_in
returns c = λ i. eqb (c.read.ensures i) ((rw c.key_of.ensures at c.start-v.ensures) i)
