-- `changes::counted` meets its contract: it tests what makes a table. Assumes nothing.
use Rattle.std.proofs.Common.{arith}
use Rattle.changes.specs.AnswerLaws.{counted_table, counted_long, counted_unsorted}
use Rattle.changes.proofs.counted.Goals as goal
use Rattle.changes.proofs.counted.Goals.{else-count-bytes-via-then-count-bytes+else-rising, else-count-bytes-via-else-count-bytes}

pub invariant_of-result : goal.invariant_of-result
invariant_of-result c = record { table = counted_table c.args.bytes.now c.args.count (omega (arith, c.if-count-bytes.true)) c.if-rising.ensures }

pub returns-else-count-bytes : goal.returns-else-count-bytes
returns-else-count-bytes c =
    elim c.else-count-bytes.branch [
      | else-count-bytes-via-then-count-bytes+else-rising w ↦ counted_unsorted c.args.bytes.now c.args.count w.if-rising.ensures
      | else-count-bytes-via-else-count-bytes w ↦ counted_long c.args.bytes.now c.args.count (omega (arith, w.if-count-bytes.false))
    ]
