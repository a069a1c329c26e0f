-- Operands by the shape of an opcode, as decode reads them.
use Rattle.std.specs.Prelude.{ℕ, ◌≡◌, Option, Some, None, Result, Err}
use Rattle.isa.specs.declared.opcode.OpCode.{OpCode}
use Rattle.isa.specs.declared.instr.Instr.{Instr}
use Rattle.isa.specs.declared.codec.DecodeError.{DecodeError}
use Rattle.isa.specs.declared.codec.DecodeError.TheVariants.{BadRegister, Truncated}
use Rattle.isa.specs.Table.{regs_of, wide_of}

-- how many registers an opcode has, and how many bytes of number
abbrev pub Shape : OpCode → ℕ → ℕ → Type 0
Shape o n w = (regs_of o ≡ n) × (wide_of o ≡ w)

-- the refusal of operands that do not stand, by the first bad register of those that do
abbrev pub refused_by : Option ℕ → Result (Instr × ℕ) DecodeError
refused_by (Some b) = Err (BadRegister b)
refused_by None = Err Truncated
