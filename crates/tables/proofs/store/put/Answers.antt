-- `tables::store::put` meets its contract: a key and the bytes of a value are a row of 40 bytes. Assumes nothing.
use borrow.Author.Rules.{rules}
use Rattle.tables.specs.MadeLaws.{as_row, map_made}
use Rattle.tables.proofs.store.put.Goals as goal

pub returns : goal.returns
returns c =
    as_row 40 c.args.n _ _ _ _ _ (search rules)
    (map_made _ c.args.key.now c.copy_in.new.t _ c.args.v (search rules) c.told-key c.ranges.v.fits c.copy_in.ensures c.write.ensures) c.insert.ensures
