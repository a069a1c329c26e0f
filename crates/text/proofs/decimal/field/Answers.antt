-- `decimal::field` meets its contract: the number stands where the name ends. Assumes nothing.
use Rattle.text.specs.LaidLaws.{laid_field}
use Rattle.text.proofs.decimal.field.Goals as goal

pub returns : goal.returns
returns c = laid_field _ _ _ _ _ _ _ _ c.requires c.put_bytes-next.ensures c.decimal.ensures
