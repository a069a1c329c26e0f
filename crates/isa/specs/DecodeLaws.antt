-- What decoding answers, from what the code finds on its way. Assumes nothing.
use Rattle.std.specs.Prelude.{ℕ, zero, suc, ◌+◌, ◌^◌, ◌≤◌, ◌<◌, ◌≡◌, List, [], ◌∷◌, Bool, ltb, leb, get_or, take, drop, Option, Some, None, Ok, Err}
use Rattle.std.proofs.Math.Path.{refl, ap}
use Rattle.std.proofs.Common.{◌∙◌, arith, add-one, zero-add, suc-add, length-drop, drop_of_length-le, get_or-drop, le-leb}
use Rattle.std.proofs.Math.Bool.{true, false}
use Rattle.std.proofs.Math.Dec.{leb-suc-suc}
use Rattle.std.proofs.Math.ListN.{length}
use Rattle.std.proofs.Math.Seq.{drop-cons}
use Rattle.std.proofs.lemmas.Bool.{lt-leb}
use Rattle.words.specs.Choice.{pick}
use Rattle.words.specs.Bytes.{num, Bytes}
use Rattle.words.proofs.BytesTheorems.{num_below}
use Rattle.isa.specs.declared.opcode.OpCode.{OpCode}
use Rattle.isa.specs.declared.opcode.OpRow.{OpRow}
use Rattle.isa.specs.declared.instr.Instr.{Instr}
use Rattle.isa.specs.declared.codec.DecodeError.{DecodeError}
use Rattle.isa.specs.declared.codec.DecodeError.TheVariants.{UnknownOpcode, BadRegister, Truncated}
use Rattle.isa.specs.Table.{row_of, op_at}
use Rattle.isa.specs.Forms.{instr_of}
use Rattle.isa.specs.Codec.{first_bad, refusal_in, unless, operands_of, after_opcode, decode_list, decode_at}

-- a turn of the search for a bad register, and its end
module _ (s : List ℕ) (i : ℕ) where
  pub bad_turn : i < length s → first_bad (drop i s) ≡ pick (ltb (get_or s i 0) 16) (first_bad (drop (i + 1) s)) (Some (get_or s i 0))
  unfolding first_bad
  bad_turn l = rw (add-one i, drop-cons s i 0 l)

  pub bad_end : length s ≤ i → first_bad (drop i s) ≡ None
  unfolding first_bad
  bad_end h = ap first_bad (drop_of_length-le s h)

-- the first refusal among operands: a bad register among those that stand, else bytes that are missing
abbrev pub refusal_by : Option ℕ → Bool → Option DecodeError
refusal_by (Some b) enough = Some (BadRegister b)
refusal_by None enough = pick enough None (Some Truncated)

pub refusal_is : (n w : ℕ) (s : List ℕ) → refusal_in n w s ≡ refusal_by (first_bad (take n s)) (leb (n + w) (length s))
unfolding refusal_in first_bad
refusal_is zero w s = rw zero-add
refusal_is (suc n) w [] = rw (lt-leb (suc n + w) 0 (omega arith))
refusal_is (suc n) w (b ∷ s) = by (ltb b 16) (refusal_is n w s)
  where
    by : (t : Bool) → refusal_in n w s ≡ refusal_by (first_bad (take n s)) (leb (n + w) (length s)) →
        pick t (refusal_in n w s) (Some (BadRegister b)) ≡ refusal_by (pick t (first_bad (take n s)) (Some b)) (leb (suc n + w) (suc (length s)))
    by true e = e ∙ rw (suc-add, leb-suc-suc)
    by false e = refl

-- a number read is within its width
pub read_within : (s : List ℕ) (n w v : ℕ) → n + w ≤ length s → Bytes s → v ≡ num (take w (drop n s)) → v < 256 ^ w
read_within s n w v h k e = rw e (num_below w (drop n s) (rw length-drop (omega arith)) (λ (j : ℕ). rw get_or-drop (k (n + j))))

module _ (o : OpCode) (s : List ℕ) (row : OpRow) (r : row ≡ row_of o) where
  operands_by : (f : Option ℕ) (t : Bool) → first_bad (take row.1 s) ≡ f → leb (row.1 + row.2) (length s) ≡ t →
      unless (refusal_by f t) (Ok (instr_of o s (num (take row.2 (drop row.1 s))), 1 + row.1 + row.2)) ≡ operands_of o s
  unfolding operands_of
  operands_by f t e h = rw (← e, ← h, ← refusal_is row.1 row.2 s, r)

  pub operands_bad : (b : ℕ) → first_bad (take row.1 s) ≡ Some b → Err (BadRegister b) ≡ operands_of o s
  unfolding unless
  operands_bad b h = operands_by (Some b) (leb (row.1 + row.2) (length s)) h refl

  pub operands_short : first_bad (take row.1 s) ≡ None → length s < row.1 + row.2 → Err Truncated ≡ operands_of o s
  unfolding unless
  operands_short h l = operands_by None false h (lt-leb (row.1 + row.2) (length s) l)

  pub operands_done : first_bad (take row.1 s) ≡ None → row.1 + row.2 ≤ length s → (i : Instr) (n : ℕ) →
      n ≡ num (take row.2 (drop row.1 s)) → i ≡ instr_of o s n → Ok (i, 1 + row.1 + row.2) ≡ operands_of o s
  unfolding unless
  operands_done h l i n en ei =
      ap (λ (j : Instr). Ok (j, 1 + row.1 + row.2)) (ei ∙ ap (instr_of o s) en)
      ∙ operands_by None true h (le-leb (row.1 + row.2) (length s) l)

module _ (code : List ℕ) (place : ℕ) where
  pub past_end : length code ≤ place → Err Truncated ≡ decode_at code place
  unfolding decode_at decode_list
  past_end h = rw (drop_of_length-le code h)

  pub no_opcode : place < length code → op_at (get_or code place 0) ≡ None → Err (UnknownOpcode (get_or code place 0)) ≡ decode_at code place
  unfolding decode_at decode_list after_opcode
  no_opcode h e = rw (drop-cons code place 0 h, e)

  pub an_opcode : place < length code → (o : OpCode) → op_at (get_or code place 0) ≡ Some o → operands_of o (drop (place + 1) code) ≡ decode_at code place
  unfolding decode_at decode_list after_opcode
  an_opcode h o e = rw (add-one place, drop-cons code place 0 h, e)
