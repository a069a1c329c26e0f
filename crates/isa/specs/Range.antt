-- Instructions in range, and an instruction that stands in bytes.
use Rattle.std.specs.Prelude.{ℕ, ◌^◌, ◌<◌, ◌≡◌, List, length, get_or, take, drop}
use Rattle.isa.specs.declared.instr.Instr.{Instr}
use Rattle.isa.specs.Table.{wide_of}
use Rattle.isa.specs.Forms.{form_of}
use Rattle.isa.specs.Codec.{instr_bytes}

-- registers below 16, and the number within its width
pub record InRange (i : Instr) : Type 0 where
  pub regs : (k : ℕ) → get_or (form_of i).regs k 0 < 16
  pub number : (form_of i).number < 256 ^ wide_of (form_of i).op

-- the bytes of an instruction in range, n of them, stand at a place
pub record StandsIn (i : Instr) (n : ℕ) (code : List ℕ) (place : ℕ) : Type 0 where
  pub in_range : InRange i
  pub bytes : take n (drop place code) ≡ instr_bytes i
  pub size : n ≡ length (instr_bytes i)
