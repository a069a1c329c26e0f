-- `effects::trailer::record_ending_at` meets its contract. Assumes nothing.
use Rattle.effects.specs.TrailerLaws.{ending_short, ending_bad, ending_read}
use Rattle.effects.proofs.trailer.record_ending_at.Goals as goal

pub returns-then-at-lt13 : goal.returns-then-at-lt13
returns-then-at-lt13 c =
    ending_short c.args.log.now c.args.at c.requires.0 c.requires.1 _ c.nothing.ensures c.if-at-lt13.true

pub returns-then-body-n : goal.returns-then-body-n
returns-then-body-n c =
    ending_bad c.args.log.now c.args.at c.requires.0 c.requires.1 _ c.read-n.ensures _ c.nothing-then-body-n.ensures c.if-body-n.true

pub returns : goal.returns
returns c =
    ending_read c.args.log.now c.args.at c.requires.0 c.requires.1 _ c.read-n.ensures _
    c.if-at-lt13.false c.if-body-n.false c.read.ensures
