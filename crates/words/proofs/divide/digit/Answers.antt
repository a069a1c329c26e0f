-- `words::divide::digit` meets its contract: the divisor's upper half gives an estimate, and quotient and remainder have no upper word. Assumes nothing.
use borrow.Author.Rules.{rules}
use Rattle.words.proofs.divide.Laws.{digit_estimate, digit_ends}
use Rattle.words.proofs.divide.digit.Goals as goal

pub descend-x-requires : goal.descend-x-requires
descend-x-requires c = digit_estimate c.args.rest c.args.next c.args.v c.requires.0 c.requires.2

pub returns : goal.returns
returns c =
    let divided = c.descend-x in
    digit_ends c.args.rest c.args.next c.args.v divided.result.q divided.result.r c.requires.1 (search rules)
    c.requires.2 divided.ensures
