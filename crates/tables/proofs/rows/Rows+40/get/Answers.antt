-- `tables::rows::Rows::get` meets its contract: a row that was found lies within, and its value is read there. Assumes nothing.
use Rattle.std.specs.Prelude.{◌≡◌, ◌+◌, ◌*◌, ◌≤◌, length, Ok}
use Rattle.std.proofs.Common.{sym, ap, ◌∙◌, arith}
use Rattle.std.specs.Result.{result_ok}
use Rattle.words.specs.Bytes.{num}
use Rattle.tables.specs.Rows.{rows, find}
use Rattle.tables.specs.SearchLaws.{found_row, got_value, found_at, found_nowhere}
use Rattle.tables.proofs.rows.Rows+40.get.Goals as goal
use Rattle.tables.proofs.rows.Rows+40.get.Goals.{In_ok-i}

told : (c : In_ok-i) → let t = c.args.self in find (num c.args.key.now) (rows 40 t.count t.bytes.now) ≡ Ok c.in_ok-i.i
told c = sym c.find.ensures ∙ found_at _ _ (sym c.ok.ensures.value ∙ c.in_ok-i.was)

within : (c : In_ok-i) → c.in_ok-i.i * 40 + 40 ≤ length c.args.self.bytes.now
within c = let t = c.args.self in omega (arith, found_row (num c.args.key.now) t.count c.in_ok-i.i t.bytes.now (told c), t.table.fits)

pub returns-in_err-i : goal.returns-in_err-i
returns-in_err-i c =
    c.from_residual.ensures
    ∙ sym (found_nowhere _ _ (ap result_ok (sym c.find.ensures) ∙ sym c.ok.ensures.value ∙ c.in_err-i.was))

pub overflow_mul-i : goal.overflow_mul-i
overflow_mul-i c = omega (arith, within (goal.at-overflow_mul-i c).In_ok-i)

pub overflow_add-i : goal.overflow_add-i
overflow_add-i c = omega (arith, within (goal.at-overflow_add-i c).In_ok-i)

pub read-requires : goal.read-requires
read-requires c = (omega (arith, within (goal.at-read-requires c).In_ok-i), omega arith)

pub returns : goal.returns
returns c = got_value _ _ _ _ _ (told (goal.at-returns c).In_ok-i) c.read.ensures
