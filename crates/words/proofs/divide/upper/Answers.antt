-- `words::divide::upper` meets its contract: what it leaves out is the product's lowest word. Assumes nothing.
use mir.Facts.{Fits-bits}
use borrow.Author.Rules.{rules}
use Rattle.words.proofs.divide.Laws.{upper_fits, upper_words}
use Rattle.words.proofs.divide.upper.Goals as goal

pub overflow_add-result : goal.overflow_add-result
overflow_add-result c =
    let a = c.args in
    Fits-bits 64 tt
    (upper_fits a.n.lo a.n.hi a.s c.shifted-p.result c.shifted-q.result c.requires
    (search rules) (search rules) c.shifted-p.ensures c.shifted-q.ensures)

pub returns : goal.returns
returns c =
    upper_words c.args.n _ c.shifted-p.result c.shifted-q.result (search rules) c.shifted-p.ensures c.shifted-q.ensures
