-- `changes::list` meets its contract: the rows are counted, and written where they fit. Assumes nothing.
use native.Mathlib.Omega.{arith}
use Rattle.changes.specs.AnswerLaws.{ends_short, ends_rows}
use Rattle.changes.proofs.list.Goals as goal

pub returns-then-out-k : goal.returns-then-out-k
returns-then-out-k c = let whole =
    ends_short _ _ _ c.count_changed-k.ensures (omega (arith, c.if-out-k.true))
    in record { answer = whole.0; output = whole.1 }

pub returns : goal.returns
returns c = let whole =
    ends_rows _ _ _ _ c.count_changed-k.ensures c.if-out-k.false c.write_changed.ensures
    in record { answer = whole.0; output = whole.1 }
