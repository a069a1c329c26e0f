-- `effect::end_before_newest` meets its contract: a turn takes one record away. Assumes nothing.
use Rattle.std.proofs.Common.{arith}
use Rattle.lines.specs.NewestLaws.{before_one, before_all}
use Rattle.lines.proofs.effect.end_before_newest.Goals as goal

pub returns-then-at-eq0 : goal.returns-then-at-eq0
returns-then-at-eq0 c =
    (omega arith, before_all _ c.loop-i.at c.loop-i._i c.args.k c.if-at-eq0.true (omega arith) c.loop-i.invariant.1)

pub loop-i-preserved : goal.loop-i-preserved
loop-i-preserved c =
    let turn = c.loop-i in
    let read = c.record_ending_at-at in
    (omega (arith, read.ensures.less), before_one _ turn.at turn._i read.result (omega arith) (omega arith) read.ensures turn.invariant.1)
