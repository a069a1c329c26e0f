-- `tables::check::check` meets its contract. Assumes nothing.
use Rattle.std.specs.Prelude.{Some, None, Bool, true, false, ℕ}
use Rattle.words.specs.WholeLaws.{whole_rows, whole_part}
use Rattle.tables.specs.Rows.{rows}
use Rattle.tables.specs.Checked.{risingb, checked_of}
use Rattle.tables.proofs.check.check.Goals as goal
use Rattle.tables.proofs.check.check.Goals.{Start, else-t-w-eq0-via-then-t-w-eq0+else-rising, else-t-w-eq0-via-else-t-w-eq0}

-- the test of the first n rows
abbrev test : Start → ℕ → Bool
test s n = risingb 0 (rows s.args.w n s.args.t.now)

pub returns-then-rising : goal.returns-then-rising
unfolding checked_of
returns-then-rising c =
    whole_rows (test (goal.at-returns-then-rising c).Start) Some None _ _ c.if-t-w-eq0.true true c.if-rising.ensures

pub returns-else-t-w-eq0 : goal.returns-else-t-w-eq0
unfolding checked_of
returns-else-t-w-eq0 c =
    elim c.else-t-w-eq0.branch [
      | else-t-w-eq0-via-then-t-w-eq0+else-rising w ↦ whole_rows (test (goal.at-returns-else-t-w-eq0 c).Start) Some None _ _ w.if-t-w-eq0.true false w.if-rising.ensures
      | else-t-w-eq0-via-else-t-w-eq0 w ↦ whole_part (test (goal.at-returns-else-t-w-eq0 c).Start) Some None _ _ w.if-t-w-eq0.false
    ]
