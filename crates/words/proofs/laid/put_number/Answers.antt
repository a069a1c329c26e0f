-- `put_number` meets its contract. Assumes nothing.
use Rattle.words.specs.LaidLaws.{laid_number}
use Rattle.words.proofs.laid.put_number.Goals as goal

pub returns : goal.returns
returns c =
    let a = c.args in
    laid_number a.out.now _ a.at a.w a.v c.write.ensures
