-- `words::product::product_plus` meets its contract: its columns are those of the product. Assumes nothing.
use Rattle.words.proofs.product.Columns.{columns}
use Rattle.words.proofs.product.product_plus.Goals as goal

pub returns : goal.returns
returns c =
    let hi = c.column-hi in
    let side = c.column-side in
    let mid = c.column-mid in
    let low = c.column-low in
    let a = c.args in
    columns a.x a.y a.z low.result mid.result side.result hi.result low.ensures mid.ensures side.ensures hi.ensures
