-- Decode refuses exactly where the rules refuse, and encode leaves what it refuses (document 01, Codec). Assumes nothing.
use Rattle.std.specs.Prelude.{ℕ, ◌+◌, ◌≤◌, ◌<◌, ◌≡◌, refl, List, Bool, true, false, leb, length, get_or, take, drop, Option, Some, None, Ok, Err}
use Rattle.std.proofs.Common.{sym, ◌∙◌, arith, length-drop, leb-true, leb-false}
use Rattle.isa.specs.declared.opcode.OpCode.{OpCode}
use Rattle.isa.specs.declared.instr.Instr.{Instr}
use Rattle.isa.specs.declared.codec.DecodeError.{DecodeError}
use Rattle.isa.specs.declared.codec.DecodeError.TheVariants.{UnknownOpcode, BadRegister, Truncated}
use Rattle.isa.specs.declared.codec.EncodeError.{EncodeError}
use Rattle.isa.specs.Table.{row_of, regs_of, wide_of, length_of, op_at}
use Rattle.isa.specs.Codec.{first_bad, decode_at, encoded_of, output_after, output_of}
use Rattle.isa.specs.DecodeLaws.{past_end, no_opcode, an_opcode, operands_bad, operands_short, operands_done}

-- why decode refuses at a place: no byte, no opcode, a bad register among those that stand, or bytes that are missing
pub data Why (code : List ℕ) (place : ℕ) : DecodeError → Type 0 where
  nothing : length code ≤ place → Why code place Truncated
  unknown : place < length code → op_at (get_or code place 0) ≡ None → Why code place (UnknownOpcode (get_or code place 0))
  register : place < length code → (o : OpCode) → op_at (get_or code place 0) ≡ Some o → (b : ℕ) →
      first_bad (take (regs_of o) (drop (place + 1) code)) ≡ Some b → Why code place (BadRegister b)
  short : place < length code → (o : OpCode) → op_at (get_or code place 0) ≡ Some o →
      first_bad (take (regs_of o) (drop (place + 1) code)) ≡ None → length code < place + length_of o → Why code place Truncated

pub refuses : (code : List ℕ) (place : ℕ) (e : DecodeError) → Why code place e → decode_at code place ≡ Err e
refuses code place e (nothing h) = sym (past_end code place h)
refuses code place e (unknown h u) = sym (no_opcode code place h u)
refuses code place e (register h o k b f) = sym (operands_bad o (drop (place + 1) code) (row_of o) refl b f ∙ an_opcode code place h o k)
refuses code place e (short h o k f l) =
    sym (operands_short o (drop (place + 1) code) (row_of o) refl f (omega (arith, length-drop (place + 1) code)) ∙ an_opcode code place h o k)

-- every place is refused for one of these reasons, or decoded
data Outcome (code : List ℕ) (place : ℕ) : Type 0 where
  refused : (e : DecodeError) → Why code place e → Outcome code place
  decoded : (i : Instr) (n : ℕ) → decode_at code place ≡ Ok (i, n) → Outcome code place

module _ (code : List ℕ) (place : ℕ) where
  with_operands : place < length code → (o : OpCode) → op_at (get_or code place 0) ≡ Some o → Outcome code place
  with_operands h o k = by (first_bad (take (regs_of o) (drop (place + 1) code))) (leb (regs_of o + wide_of o) (length (drop (place + 1) code))) refl refl
    where
      by : (f : Option ℕ) (t : Bool) → first_bad (take (regs_of o) (drop (place + 1) code)) ≡ f → leb (regs_of o + wide_of o) (length (drop (place + 1) code)) ≡ t →
          Outcome code place
      by (Some b) t p q = refused (BadRegister b) (register h o k b p)
      by None true p q =
          decoded _ _ (sym (operands_done o (drop (place + 1) code) (row_of o) refl p (leb-true _ _ q) _ _ refl refl ∙ an_opcode code place h o k))
      by None false p q =
          refused Truncated (short h o k p (omega (arith, leb-false (regs_of o + wide_of o) (length (drop (place + 1) code)) q, length-drop (place + 1) code)))

  with_opcode : place < length code → (x : Option OpCode) → op_at (get_or code place 0) ≡ x → Outcome code place
  with_opcode h (Some o) k = with_operands h o k
  with_opcode h None k = refused (UnknownOpcode (get_or code place 0)) (unknown h k)

  outcome : (t : Bool) → leb (length code) place ≡ t → Outcome code place
  outcome true q = refused Truncated (nothing (leb-true (length code) place q))
  outcome false q = with_opcode (leb-false (length code) place q) (op_at (get_or code place 0)) refl

-- a refusal has one of these reasons, and it is that refusal's
pub refused_why : (code : List ℕ) (place : ℕ) (e : DecodeError) → decode_at code place ≡ Err e → Why code place e
refused_why code place e h = by (outcome code place (leb (length code) place) refl)
  where
    by : Outcome code place → Why code place e
    by (refused f w) =
        let r : decode_at code place ≡ Err f = refuses code place f w in
        let q : f ≡ e = cc in
        rw q at w
    by (decoded i n d) = absurd (let z : ◌≡◌ {A = ℕ} 0 1 = cc in omega arith)

-- what encode refuses it leaves
pub refused_left : (i : Instr) (out : List ℕ) (e : EncodeError) → encoded_of i out ≡ Err e → output_of i out ≡ out
unfolding output_of output_after
refused_left i out e h = rw h
