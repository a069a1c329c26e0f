-- The cases that document 01 marks as proved, in one table (document 01, Cases): what is computed, and what it must give.
use Rattle.std.specs.Prelude.{Bool, true, List, [], ◌∷◌, ◌++◌, ℕ, ◌-◌, ◌^◌, replicate, Result, Ok, Err}
use Rattle.words.specs.Choice.{both}
use Rattle.isa.specs.Table.{byte_of}
use Rattle.isa.specs.Forms.{form_of}
use Rattle.isa.specs.Codec.{decode_at}
use Rattle.isa.specs.Answers.{decode_error}
use Rattle.isa.specs.declared.instr.Instr.{Instr}
use Rattle.isa.specs.declared.instr.Instr.TheVariants.{Add, AddW, MulHi, DivW}
use Rattle.effects.specs.Targets.{same}
use Rattle.meter.specs.Prices.{hash_price}
use Rattle.state.specs.Faults.{fault_number}
use Rattle.state.specs.Regs.{reg, file, register_step}
use Rattle.state.specs.Memory.{region_of, load_of}
use Rattle.state.specs.Answers.{region_number, load_number}
use Rattle.isa.specs.declared.codec.DecodeError.{DecodeError}

-- a row: the numbers that the definitions give, and those that document 01 asks for
pub record Case : Type 0 where
  pub gives : List ℕ
  pub must : List ℕ

abbrev pub case : (gives must : List ℕ) → Case
case g m = record { gives = g; must = m }

-- 0, length, opcode byte, registers and number; or the refusal's number and argument
unfoldable pub decoded : Result (Instr × ℕ) DecodeError → List ℕ
decoded (Ok (i, n)) = 0 ∷ n ∷ byte_of (form_of i).op ∷ (form_of i).regs ++ ((form_of i).number ∷ [])
decoded (Err x) = (decode_error x).number ∷ (decode_error x).argument ∷ []

-- an operation's fault, and registers 0 and 1 after it, from registers 2 to 5
unfoldable pub operated_on : Instr → (r2 r3 r4 r5 : ℕ) → List ℕ
operated_on i a b c d =
    let s = register_step i (file (0 ∷ 0 ∷ a ∷ b ∷ c ∷ d ∷ replicate 10 0)) in
    fault_number s.fault ∷ reg s.file 0 ∷ reg s.file 1 ∷ []

unfoldable pub cases : List Case
cases =
    case (decoded (decode_at (0x10 ∷ 0x10 ∷ []) 0)) (16 ∷ 0x10 ∷ [])
    ∷ case (decoded (decode_at (0x10 ∷ 0x01 ∷ []) 0)) (17 ∷ 0 ∷ [])
    ∷ case (decoded (decode_at (0x05 ∷ []) 0)) (15 ∷ 0x05 ∷ [])
    ∷ case (decoded (decode_at (0x03 ∷ 0x02 ∷ replicate 7 0 ++ (0x2A ∷ [])) 0)) (0 ∷ 10 ∷ 0x03 ∷ 2 ∷ 42 ∷ [])
    ∷ case (operated_on (AddW 0 2 3) (2 ^ 64 - 1) 2 0 0) (0 ∷ 1 ∷ 0 ∷ [])
    ∷ case (operated_on (Add 0 2 3) (2 ^ 64 - 1) 2 0 0) (2 ∷ 0 ∷ 0 ∷ [])
    ∷ case (operated_on (MulHi 0 2 2) (2 ^ 64 - 1) 0 0 0) (0 ∷ (2 ^ 64 - 2) ∷ 0 ∷ [])
    ∷ case (operated_on (DivW 0 1 2 3 4 5) 0 1 2 0) (0 ∷ (2 ^ 63) ∷ 0 ∷ [])
    ∷ case (load_number (load_of (replicate 65536 0) 65528) ∷ []) (0 ∷ [])
    ∷ case (load_number (load_of (replicate 65536 0) 65529) ∷ []) (6 ∷ [])
    ∷ case (region_number (region_of 65536 65536 0) ∷ []) (0 ∷ [])
    ∷ case (region_number (region_of 65536 65537 0) ∷ []) (6 ∷ [])
    ∷ case (hash_price 135 ∷ hash_price 136 ∷ []) (40 ∷ 80 ∷ [])
    ∷ []

unfoldable pub all_hold : List Case → Bool
all_hold [] = true
all_hold (c ∷ cs) = both (same c.gives c.must) (all_hold cs)
