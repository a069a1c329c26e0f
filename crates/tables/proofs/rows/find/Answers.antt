-- `tables::rows::find` meets its contract: rows before lo are below the key, rows from hi on above it. Assumes nothing.
use Rattle.std.specs.Prelude.{◌≡◌, ℕ, ◌+◌, ◌*◌, ◌-◌, ◌/◌}
use Rattle.std.proofs.Common.{sym, ◌∙◌, arith}
use Rattle.std.proofs.Math.Nat.{add-sub_cancel_left}
use Rattle.std.specs.Ordering.{nat_cmp}
use Rattle.std.specs.declared.cmp.Ordering.TheVariants.{Less, Equal, Greater}
use Rattle.std.proofs.lemmas.Cmp.{ranked}
use Rattle.words.specs.Bytes.{num}
use Rattle.tables.specs.Rows.{rows}
use Rattle.tables.specs.Walks.{key_of_row}
use Rattle.tables.specs.LayoutLaws.{rows_length, key_at_lem}
use Rattle.tables.specs.SearchLaws.{bracket_start, bracket_up, bracket_down, bracket_hit, bracket_end}
use Rattle.tables.proofs.rows.find.Goals as goal
use Rattle.tables.proofs.rows.find.Goals.{After-compare}

abbrev mid : After-compare → ℕ
mid c = c.loop-lo.lo + (c.loop-lo.hi - c.loop-lo.lo) / 2

-- the row in the middle was compared
told : (c : After-compare) → let a = c.args in c.compare.result ≡ nat_cmp (key_of_row (rows a.w a.n a.t.now) (mid c)) (num c.args.key.now)
told c =
    let a = c.args in
    let k = key_at_lem a.w a.n (mid c) a.t.now (omega arith) in
    rw k (rw (add-sub_cancel_left (mid c * a.w) 32) at c.compare.ensures)

pub loop-lo-init : goal.loop-lo-init
loop-lo-init c = bracket_start _ _ _ (rows_length _ _ _)

pub loop-lo-preserved-in-Less : goal.loop-lo-preserved-in-Less
loop-lo-preserved-in-Less c =
    bracket_up c.requires.0.rising c.loop-lo.invariant _ (omega arith) (omega arith)
    (ranked _ _ Less (sym c.in-Less.is ∙ told (goal.at-loop-lo-preserved-in-Less c).After-compare))

pub returns-in-Equal : goal.returns-in-Equal
returns-in-Equal c =
    sym (bracket_hit c.requires.0.rising c.loop-lo.invariant (mid (goal.at-returns-in-Equal c).After-compare) (omega arith) (omega arith)
    (ranked _ _ Equal (sym c.in-Equal.is ∙ told (goal.at-returns-in-Equal c).After-compare)))

pub loop-lo-preserved : goal.loop-lo-preserved
loop-lo-preserved c =
    bracket_down c.requires.0.rising c.loop-lo.invariant _ (omega arith) (omega arith)
    (ranked _ _ Greater (sym c.in-Greater.is ∙ told (goal.at-loop-lo-preserved c).After-compare))

pub returns : goal.returns
returns c = sym (bracket_end c.loop-lo.invariant c.loop-lo-test.false)
