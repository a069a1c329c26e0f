-- `count` meets its contract: four bytes write less than 2^32. Assumes nothing.
use Rattle.calls.specs.CallFileLaws.{four_below}
use Rattle.calls.proofs.count.Goals as goal

pub returns-clause-four_bytes : goal.returns-clause-four_bytes
returns-clause-four_bytes c = rw c.read.ensures (four_below c.args.s.now c.args.at c.requires (λ k. (c.type_inv.s k).fits))
