-- How an instruction stands in bytes, and how bytes are read and refused (document 01, Codec).
use Rattle.std.specs.Prelude.{ℕ, zero, suc, List, [], ◌∷◌, ◌++◌, ltb, leb, length, take, drop, Option, Some, None, Result, Ok, Err}
use Rattle.words.specs.Choice.{pick}
use Rattle.words.specs.Bytes.{num, be_bytes}
use Rattle.isa.specs.declared.opcode.OpCode.{OpCode}
use Rattle.isa.specs.declared.instr.Instr.{Instr}
use Rattle.isa.specs.declared.codec.DecodeError.{DecodeError}
use Rattle.isa.specs.declared.codec.DecodeError.TheVariants.{UnknownOpcode, BadRegister, Truncated}
use Rattle.isa.specs.declared.codec.EncodeError.TheVariants as error
use Rattle.isa.specs.Table.{byte_of, regs_of, wide_of, length_of, op_at}
use Rattle.isa.specs.Forms.{form_of, instr_of}
use Rattle.isa.specs.declared.codec.EncodeError.{EncodeError}

-- operands are read in order, n registers and then the w bytes of a number: the first refusal met
unfoldable pub refusal_in : (n w : ℕ) → List ℕ → Option DecodeError
refusal_in zero w s = pick (leb w (length s)) None (Some Truncated)
refusal_in (suc n) w [] = Some Truncated
refusal_in (suc n) w (b ∷ s) = pick (ltb b 16) (refusal_in n w s) (Some (BadRegister b))

unfoldable pub unless : Option DecodeError → Result (Instr × ℕ) DecodeError → Result (Instr × ℕ) DecodeError
unless None d = d
unless (Some e) d = Err e

-- what the bytes after an opcode say
unfoldable pub operands_of : OpCode → List ℕ → Result (Instr × ℕ) DecodeError
operands_of o s =
    unless (refusal_in (regs_of o) (wide_of o) s)
    (Ok (instr_of o s (num (take (wide_of o) (drop (regs_of o) s))), length_of o))

unfoldable pub after_opcode : Option OpCode → ℕ → List ℕ → Result (Instr × ℕ) DecodeError
after_opcode (Some o) b s = operands_of o s
after_opcode None b s = Err (UnknownOpcode b)

-- the opcode first
unfoldable pub decode_list : List ℕ → Result (Instr × ℕ) DecodeError
decode_list [] = Err Truncated
decode_list (b ∷ s) = after_opcode (op_at b) b s

-- the instruction at a place of the code; a place at or past the end is Truncated
unfoldable pub decode_at : List ℕ → ℕ → Result (Instr × ℕ) DecodeError
decode_at code place = decode_list (drop place code)

-- the bytes of an instruction: its opcode's, its registers, its number
unfoldable pub instr_bytes : Instr → List ℕ
instr_bytes i = byte_of (form_of i).op ∷ (form_of i).regs ++ be_bytes (wide_of (form_of i).op) (form_of i).number

-- the first register of 16 or more
unfoldable pub first_bad : List ℕ → Option ℕ
first_bad [] = None
first_bad (r ∷ rs) = pick (ltb r 16) (first_bad rs) (Some r)

-- what encode answers: a register of 16 or more is refused first, then an output that is too short
unfoldable pub encoded_with : Option ℕ → (size room : ℕ) → Result ℕ EncodeError
encoded_with (Some r) size room = Err (error.BadRegister r)
encoded_with None size room = pick (leb size room) (Ok size) (Err error.NoRoom)

unfoldable pub encoded_of : Instr → List ℕ → Result ℕ EncodeError
encoded_of i out = encoded_with (first_bad (form_of i).regs) (length (instr_bytes i)) (length out)

-- what it leaves in the output: the bytes and what stood after them, or all as it was
unfoldable pub output_after : Result ℕ EncodeError → List ℕ → List ℕ → List ℕ
output_after (Ok n) bytes out = bytes ++ drop n out
output_after (Err e) bytes out = out

unfoldable pub output_of : Instr → List ℕ → List ℕ
output_of i out = output_after (encoded_of i out) (instr_bytes i) out
