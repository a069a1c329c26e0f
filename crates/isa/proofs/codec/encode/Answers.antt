-- `encode` meets its contract, a law for each return. Assumes nothing.
use Rattle.std.specs.Prelude.{None}
use mathlib.Core.Path.{◌≡◌, sym, ◌∙◌}
use native.Mathlib.Omega.{arith}
use Rattle.isa.specs.Forms.{form_of}
use Rattle.isa.specs.Codec.{first_bad}
use Rattle.isa.specs.TableLaws.{RowBounds, row_bounds}
use Rattle.isa.specs.EncodeLaws.{regs_stand, encoded_bad, encoded_done}
use Rattle.isa.proofs.codec.encode.Goals as goal
use Rattle.isa.proofs.codec.encode.Goals.{After-row-row, In_default}

-- no register of the instruction is 16 or more
no_bad : (c : In_default) → first_bad (form_of c.args.i).regs ≡ None
no_bad c = sym c.bad_register.ensures ∙ c.in_default.is

row_small : (c : After-row-row) → RowBounds c.parts_of-p.result.0
row_small c = row_bounds c.parts_of-p.result.0

pub returns-in-Some : goal.returns-in-Some
returns-in-Some c =
    let a = c.args in
    let e = encoded_bad a.i a.out.now c.in-Some.b (sym c.bad_register.ensures ∙ c.in-Some.is) in
    record { answer = e.answer; output = e.output }

pub overflow_add-size : goal.overflow_add-size
overflow_add-size c = rw c.row-row.ensures (omega (arith, row_small c))

pub overflow_add-size-2 : goal.overflow_add-size-2
overflow_add-size-2 c = rw c.row-row.ensures (omega (arith, row_small c))

pub put-requires : goal.put-requires
put-requires c =
    let a = c.args in
    ((omega arith), regs_stand a.i c.parts_of-p.result c.row-row.result c.parts_of-p.ensures c.row-row.ensures)

pub returns : goal.returns
returns c =
    let a = c.args in
    let e = encoded_done a.i a.out.now c.parts_of-p.result c.row-row.result c.parts_of-p.ensures c.row-row.ensures (no_bad (goal.at-returns c).In_default) (omega arith) _ c.put.ensures in
    record { answer = e.answer; output = e.output }
