-- `tables::check::rising` meets its contract: each of the first i keys is below the next. Assumes nothing.
use Rattle.std.specs.Prelude.{◌≡◌, ℕ, suc, ◌*◌, ◌-◌}
use Rattle.std.proofs.Common.{sym, ap, arith, suc-mul}
use Rattle.std.proofs.Math.Nat.{add-sub_cancel_left}
use Rattle.std.specs.Ordering.{nat_cmp}
use Rattle.tables.specs.Rows.{rows}
use Rattle.tables.specs.Walks.{key_of_row}
use Rattle.tables.specs.LayoutLaws.{rows_length, key_at_lem}
use Rattle.tables.specs.OrderLaws.{ge_is, lt_is}
use Rattle.tables.specs.CheckLaws.{adjacent_more, adjacent_all, adjacent_not}
use Rattle.tables.proofs.check.rising.Goals as goal
use Rattle.tables.proofs.check.rising.Goals.{After-compare-o}

-- the rows i - 1 and i were compared
told : (c : After-compare-o) → let a = c.args in
    c.compare-o.result ≡ nat_cmp (key_of_row (rows a.w a.n a.t.now) (c.loop-i.i - 1)) (key_of_row (rows a.w a.n a.t.now) c.loop-i.i)
told c =
    let a = c.args in
    let i = c.loop-i.i in
    let k = key_at_lem a.w a.n i a.t.now (omega arith) in
    let j = key_at_lem a.w a.n (i - 1) a.t.now (omega arith) in
    let q : i ≡ suc (i - 1) = omega arith in
    let e : (i - 1) * a.w ≡ i * a.w - a.w = omega (arith, suc-mul (i - 1) a.w, ap (λ (j : ℕ). j * a.w) q) in
    rw (k, j, e) (rw (add-sub_cancel_left (i * a.w) 32, add-sub_cancel_left (i * a.w - a.w) 32) at c.compare-o.ensures)

pub returns-then-is_ge : goal.returns-then-is_ge
returns-then-is_ge c =
    sym (adjacent_not _ _ c.loop-i.i (c.loop-i.i - 1) (rows_length _ _ _) (omega arith) c.loop-i-test.true
    (ge_is _ _ _ (told (goal.at-returns-then-is_ge c).After-compare-o) c.if-is_ge.ensures))

pub loop-i-preserved : goal.loop-i-preserved
loop-i-preserved c =
    adjacent_more _ _ (c.loop-i.i - 1) (omega arith) c.loop-i.invariant
    (lt_is _ _ _ (told (goal.at-loop-i-preserved c).After-compare-o) c.if-is_ge.ensures)

pub returns : goal.returns
returns c = sym (adjacent_all _ _ c.loop-i.i (rows_length _ _ _) c.loop-i-test.false c.loop-i.invariant)
