-- An output that is too short for an instruction. Assumes nothing.
use Rattle.std.specs.Prelude.{◌≡◌, List, ℕ, ◌+◌, ◌<◌, length, None, Err}
use Rattle.isa.specs.declared.instr.Instr.{Instr}
use Rattle.isa.specs.declared.instr.Parts.{Parts}
use Rattle.isa.specs.declared.opcode.OpRow.{OpRow}
use Rattle.isa.specs.declared.codec.EncodeError.TheVariants.{NoRoom}
use Rattle.isa.specs.Table.{row_of}
use Rattle.isa.specs.Forms.{form_of, padded}
use Rattle.isa.specs.Codec.{first_bad, encoded_of, output_of}
use Rattle.isa.specs.EncodeLaws.{encoded_no_room}

module _ (i : Instr) (out : List ℕ) (p : Parts) (row : OpRow) (ep : p ≡ padded (form_of i)) (er : row ≡ row_of p.0) (h : first_bad (form_of i).regs ≡ None) (l : length out < 1 + row.1 + row.2) where
  pub no_room_answer : Err NoRoom ≡ encoded_of i out
  no_room_answer = (encoded_no_room i out p row ep er h l).answer

  pub no_room_output : out ≡ output_of i out
  no_room_output = (encoded_no_room i out p row ep er h l).output
