-- `OpCode::length` meets its contract: no length is above 10, so no sum wraps. Assumes nothing.
use native.Mathlib.Omega.{arith}
use Rattle.isa.specs.TableLaws.{row_bounds}
use Rattle.isa.proofs.opcode.OpCode.length.Goals as goal

pub overflow_add-result : goal.overflow_add-result
overflow_add-result c = rw c.row-row.ensures (omega (arith, row_bounds c.args.self))

pub overflow_add-result-2 : goal.overflow_add-result-2
overflow_add-result-2 c = rw c.row-row.ensures (omega (arith, row_bounds c.args.self))

pub returns : goal.returns
returns c = rw c.row-row.ensures
