-- `words::divide::by_large` meets its contract: two digits are all of the quotient. Assumes nothing.
use Rattle.words.proofs.divide.Laws.{two_digits}
use Rattle.words.proofs.divide.by_large.Goals as goal

pub returns : goal.returns
returns c =
    let second = c.digit-b in
    let first = c.digit-a in
    let a = c.args in
    two_digits a.hi a.lo a.v first.result.q second.result.q first.result.r second.result.r first.ensures.0 second.ensures.0
