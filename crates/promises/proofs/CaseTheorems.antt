-- The cases that document 01 marks as proved hold: each row gives what it must. Assumes nothing.
use Rattle.std.specs.Prelude.{◌≡◌, refl, true}
use Rattle.words.specs.Bytes.{num, num_from}
use Rattle.isa.specs.Table.{row_of, op_with, op_at}
use Rattle.isa.specs.Forms.{form_of, instr_of}
use Rattle.isa.specs.Codec.{refusal_in, unless, operands_of, after_opcode, decode_list, decode_at}
use Rattle.effects.specs.Targets.{same}
use Rattle.state.specs.Alu.{alu_of}
use Rattle.state.specs.Regs.{register_step}
use Rattle.promises.specs.CaseTheorems.{cases, all_hold, decoded, operated_on}

pub p_cases : all_hold cases ≡ true
unfolding cases all_hold same decoded operated_on num num_from row_of op_with op_at form_of instr_of refusal_in unless operands_of after_opcode decode_list decode_at alu_of register_step
p_cases = refl
