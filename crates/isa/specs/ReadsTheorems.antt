-- Reads at a place are decode's: it goes on with the opcode's byte, or hands that read's refusal on, and its operands refuse as register reads in a row do. Assumes nothing.
use Rattle.std.specs.Prelude.{ℕ, suc, ◌+◌, ◌≡◌, Bool, List, length, get_or, drop, Option, Some, Result, Ok, Err}
use Rattle.std.proofs.Math.Path.{refl}
use Rattle.std.proofs.Math.Bool.{true, false}
use Rattle.std.proofs.Common.{add-one, drop_of_length-le, ltb-true, ltb-false}
use Rattle.std.proofs.Math.Dec.{ltb}
use Rattle.std.proofs.Math.Seq.{drop-cons}
use Rattle.words.specs.Choice.{pick}
use Rattle.isa.specs.declared.codec.DecodeError.{DecodeError}
use Rattle.isa.specs.declared.codec.DecodeError.TheVariants.{BadRegister, Truncated}
use Rattle.isa.specs.declared.codec.ReadAt.{ReadAt}
use Rattle.isa.specs.Table.{op_at}
use Rattle.isa.specs.Codec.{refusal_in, after_opcode, decode_list, decode_at}
use Rattle.isa.specs.Reads.{reads, byte_read, as_reg, reg_read}
use Rattle.isa.specs.declared.instr.Instr.{Instr}

-- decode after the read of an opcode's byte
abbrev pub after_byte : List ℕ → Result ℕ DecodeError → ℕ → Result (Instr × ℕ) DecodeError
after_byte code (Ok b) next = after_opcode (op_at b) b (drop next code)
after_byte code (Err e) next = Err e

-- the first refusal, after the read of a register
abbrev pub after_reg : Result ℕ DecodeError → Option DecodeError → Option DecodeError
after_reg (Ok b) later = later
after_reg (Err e) later = Some e

module _ (code : List ℕ) (at : ℕ) where
  abbrev found : Bool → ReadAt
  found t = pick t (reads (Ok (get_or code at 0)) (at + 1)) (reads (Err Truncated) at)

  pub decode_reads : decode_at code at ≡ after_byte code (byte_read code at).got (byte_read code at).at
  unfolding decode_at decode_list
  decode_reads = go (ltb at (length code)) refl
    where
      go : (t : Bool) → ltb at (length code) ≡ t → decode_at code at ≡ after_byte code (found t).got (found t).at
      go true t = rw (add-one at, drop-cons code at 0 (ltb-true at (length code) t))
      go false t = rw (drop_of_length-le code (ltb-false at (length code) t))

  module _ (k w : ℕ) where
    by_reg : (b : ℕ) (t : Bool) (later : Option DecodeError) → pick t later (Some (BadRegister b)) ≡ after_reg (pick t (Ok b) (Err (BadRegister b))) later
    by_reg b true later = refl
    by_reg b false later = refl

    pub operands_read : refusal_in (suc k) w (drop at code) ≡ after_reg (reg_read code at).got (refusal_in k w (drop (reg_read code at).at code))
    unfolding refusal_in
    operands_read = go (ltb at (length code)) refl
      where
        go : (t : Bool) → ltb at (length code) ≡ t →
            refusal_in (suc k) w (drop at code) ≡ after_reg (as_reg (found t).got) (refusal_in k w (drop (found t).at code))
        go true t =
            rw (add-one at, drop-cons code at 0 (ltb-true at (length code) t)) (by_reg (get_or code at 0) (ltb (get_or code at 0) 16) (refusal_in k w (drop (suc at) code)))
        go false t = rw (drop_of_length-le code (ltb-false at (length code) t))
