-- `tables::store::insert` meets its contract: found, the row is pasted over; missing, the rows behind move up first, if there is room. Assumes nothing.
use Rattle.std.specs.Prelude.{◌≡◌, List, ℕ, ◌+◌, ◌*◌, ◌≤◌, length, Ok, Err}
use Rattle.std.proofs.Common.{sym, refl, arith, mul-le-mul_right}
use Rattle.tables.specs.Rows.{Row, rows, row_in, find}
use Rattle.tables.specs.LayoutLaws.{rows_length, row_ends}
use Rattle.tables.specs.SortedLaws.{insert_at, insert_missing}
use Rattle.tables.specs.StoreLaws.{put_at, put_none, put_new}
use Rattle.tables.proofs.store.insert.Goals as goal
use Rattle.tables.proofs.store.insert.Goals.{In-Ok, In-Err, Start}

-- the width, the rows that were there, and the new one
abbrev width : Start → ℕ
width s = length s.args.row.now

abbrev table : Start → List Row
table s = rows (width s) s.args.n s.args.t.now

abbrev new : Start → Row
new s = row_in (width s) s.args.row.now

found : (c : In-Ok) → find (new (goal.at-In-Ok c).Start).key (table (goal.at-In-Ok c).Start) ≡ Ok c.in-Ok.i
unfolding row_in
found c = sym (rw c.key_of.ensures at c.in-Ok.ensures)

missing : (c : In-Err) → find (new (goal.at-In-Err c).Start).key (table (goal.at-In-Err c).Start) ≡ Err c.in-Err.i
unfolding row_in
missing c = sym (rw c.key_of.ensures at c.in-Err.ensures)

ends : (c : In-Ok) → c.in-Ok.i * width (goal.at-In-Ok c).Start + width (goal.at-In-Ok c).Start ≤ length c.args.t.now
ends c =
    let s = (goal.at-In-Ok c).Start in
    let h = (insert_at (new s) (table s) c.in-Ok.i (new s) (found c)).0 in
    omega (arith, row_ends (width s) c.args.n c.in-Ok.i (omega (arith, h, rows_length (width s) c.args.n c.args.t.now)), c.requires.fits)

begins : (c : In-Err) → c.in-Err.i * width (goal.at-In-Err c).Start ≤ c.args.n * width (goal.at-In-Err c).Start
begins c =
    let s = (goal.at-In-Err c).Start in
    let h = (insert_missing (new s) (table s) c.in-Err.i (missing c)).0 in
    mul-le-mul_right (width s) (omega (arith, h, rows_length (width s) c.args.n c.args.t.now))

pub overflow_mul-i : goal.overflow_mul-i
overflow_mul-i c = omega (arith, ends (goal.at-overflow_mul-i c).In-Ok)

pub copy_in-requires : goal.copy_in-requires
copy_in-requires c = omega (arith, ends (goal.at-copy_in-requires c).In-Ok)

pub overflow_mul-from : goal.overflow_mul-from
overflow_mul-from c = omega (arith, begins c)

pub shift_up-requires : goal.shift_up-requires
shift_up-requires c = (begins (goal.at-shift_up-requires c).In-Err, omega arith)

pub copy_in-requires-in-Err : goal.copy_in-requires-in-Err
copy_in-requires-in-Err c = omega (arith, begins (goal.at-copy_in-requires-in-Err c).In-Err, c.shift_up.auto.t)

pub returns-then-t-to : goal.returns-then-t-to
returns-then-t-to c =
    put_none _ _ c.in-Err.i _ _ c.requires refl (missing (goal.at-returns-then-t-to c).In-Err) c.if-t-to.true

pub returns-in-Ok : goal.returns-in-Ok
returns-in-Ok c = put_at _ _ c.in-Ok.i _ _ c.requires refl (found (goal.at-returns-in-Ok c).In-Ok) _ c.copy_in.ensures

pub returns-else-t-to : goal.returns-else-t-to
returns-else-t-to c =
    put_new _ _ c.in-Err.i _ _ c.requires refl (missing (goal.at-returns-else-t-to c).In-Err) (omega (arith, c.if-t-to.false, c.requires.fits)) _ _
    c.shift_up.ensures c.copy_in-in-Err.ensures
