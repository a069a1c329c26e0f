-- `tables::store::add` meets its contract: a key is a row of 32 bytes. Assumes nothing.
use Rattle.tables.specs.MadeLaws.{as_row, set_row}
use Rattle.tables.proofs.store.add.Goals as goal

pub returns : goal.returns
returns c = as_row 32 c.args.n _ _ _ c.args.key.now _ c.told-key (set_row c.args.key.now c.told-key) c.insert.ensures
