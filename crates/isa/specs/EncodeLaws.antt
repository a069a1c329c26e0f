-- What encoding answers and leaves in the output, from what the code finds on its way. Assumes nothing.
use Rattle.std.specs.Prelude.{ℕ, ◌+◌, ◌≤◌, ◌<◌, ◌≡◌, List, [], ◌∷◌, ◌++◌, length, take, drop, set, Some, None, Result, Ok, Err}
use Rattle.std.proofs.Math.Path.{refl, ap}
use Rattle.std.proofs.Common.{sym, ◌∙◌, arith, length-append, length-set, drop-drop, drop-set-lt, take_all, length-take-le, le-leb}
use Rattle.std.proofs.Math.Seq.{paste}
use Rattle.std.proofs.lemmas.List.Edits.{take-paste, drop-paste}
use Rattle.std.proofs.lemmas.Bool.{lt-leb}
use Rattle.words.specs.Bytes.{be_bytes}
use Rattle.words.specs.BytesLaws.{length_be_bytes}
use Rattle.isa.specs.declared.opcode.OpRow.{OpRow}
use Rattle.isa.specs.declared.instr.Instr.{Instr}
use Rattle.isa.specs.declared.instr.Parts.{Parts}
use Rattle.isa.specs.declared.codec.EncodeError.TheVariants.{BadRegister, NoRoom}
use Rattle.isa.specs.Table.{row_of, length_of, regs_of, wide_of}
use Rattle.isa.specs.TableLaws.{row_bounds}
use Rattle.isa.specs.Forms.{form_of, padded, six}
use Rattle.isa.specs.FormLaws.{length_regs, from_take, from_from}
use Rattle.isa.specs.Codec.{instr_bytes, first_bad, encoded_with, encoded_of, output_after, output_of}
use Rattle.isa.specs.declared.codec.EncodeError.{EncodeError}

-- a byte, then registers, then a number's bytes, each laid over what stood there
module _ (out r : List ℕ) (byte n w v : ℕ) (h : 1 + n + w ≤ length out) (hr : n ≤ length r) where
  first : (l : List ℕ) → 1 ≤ length l → take 1 (set l 0 byte) ≡ byte ∷ []
  first [] k = absurd (omega arith)
  first (x ∷ l) k = refl

  pub put_all : (d e : List ℕ) → d ≡ paste (set out 0 byte) 1 (take n r) (length (take n r)) → e ≡ paste d (1 + n) (be_bytes w v) w →
      e ≡ (byte ∷ take n r ++ be_bytes w v) ++ drop (1 + n + w) out
  put_all d e p q =
      let k : length (take n r) ≡ n = length-take-le n r hr in
      let p' : d ≡ paste (set out 0 byte) 1 (take n r) n = p ∙ ap (paste (set out 0 byte) 1 (take n r)) k in
      let l : 1 ≤ length (set out 0 byte) = rw length-set (omega arith) in
      let s : take n (take n r) ≡ take n r = take_all n (take n r) (omega arith) in
      let t : take (1 + n) d ≡ byte ∷ take n r =
      rw p' (take-paste (set out 0 byte) 1 (take n r) n l (omega arith) ∙ ap (λ (x : List ℕ). x ++ take n (take n r)) (first out (omega arith)) ∙ rw s) in
      let z : drop (1 + n + w) d ≡ drop (1 + n + w) out =
      sym (drop-drop w (1 + n) d) ∙ ap (drop w) (rw p' (drop-paste (set out 0 byte) 1 (take n r) n l (omega arith)))
      ∙ drop-drop w (1 + n) (set out 0 byte) ∙ drop-set-lt (1 + n + w) out 0 byte (omega arith) in
      let b : take w (be_bytes w v) ≡ be_bytes w v = take_all w (be_bytes w v) (omega (arith, length_be_bytes w v)) in
      q ∙ rw (t, z, b)

-- an instruction's bytes are as many as its opcode says
pub length_bytes : (i : Instr) → length (instr_bytes i) ≡ length_of (form_of i).op
unfolding instr_bytes
length_bytes i =
    let o = (form_of i).op in
    omega (arith, length-append (form_of i).regs (be_bytes (wide_of o) (form_of i).number), length_regs i, length_be_bytes (wide_of o) (form_of i).number)

-- the registers of an instruction stand first among its six
pub six_regs : (i : Instr) → take (regs_of (form_of i).op) (six (form_of i).regs) ≡ (form_of i).regs
six_regs i =
    let n = regs_of (form_of i).op in
    let r = (form_of i).regs in
    let k : n ≤ length r = omega (arith, length_regs i) in
    sym (from_take n (six r) (row_bounds (form_of i).op).regs) ∙ from_from 0 n 6 r (omega (arith, (row_bounds (form_of i).op).regs)) ∙ from_take n r k ∙ take_all n r (omega (arith, length_regs i))

-- an instruction taken apart, and its opcode's row
module _ (i : Instr) (p : Parts) (row : OpRow) (ep : p ≡ padded (form_of i)) (er : row ≡ row_of p.0) where
  row_is : row ≡ row_of (form_of i).op
  row_is = er ∙ ap (λ (q : Parts). row_of q.0) ep

  pub regs_stand : row.1 ≤ length p.1
  regs_stand = rw (row_is, ep) (row_bounds (form_of i).op).regs

  regs_are : take row.1 p.1 ≡ (form_of i).regs
  regs_are = rw (row_is, ep) (six_regs i)

module _ (i : Instr) (out : List ℕ) where
  -- an answer, with the output that goes with it
  pub record Answers (a : Result ℕ EncodeError) (e : List ℕ) : Type 0 where
    pub answer : a ≡ encoded_of i out
    pub output : e ≡ output_of i out

  by : (a : Result ℕ EncodeError) (e : List ℕ) → a ≡ encoded_of i out → e ≡ output_after a (instr_bytes i) out → Answers a e
  unfolding output_of
  by a e p q = record { answer = p; output = q ∙ ap (λ (x : Result ℕ EncodeError). output_after x (instr_bytes i) out) p }

  pub encoded_bad : (b : ℕ) → first_bad (form_of i).regs ≡ Some b → Answers (Err (BadRegister b)) out
  unfolding encoded_of encoded_with output_after
  encoded_bad b h = by (Err (BadRegister b)) out (rw h) refl

  module _ (p : Parts) (row : OpRow) (ep : p ≡ padded (form_of i)) (er : row ≡ row_of p.0) (h : first_bad (form_of i).regs ≡ None) where
    size_decides : encoded_with None (1 + row.1 + row.2) (length out) ≡ encoded_of i out
    unfolding encoded_of
    size_decides = rw (h, length_bytes i, row_is i p row ep er)

    pub encoded_no_room : length out < 1 + row.1 + row.2 → Answers (Err NoRoom) out
    unfolding encoded_with output_after
    encoded_no_room l = by (Err NoRoom) out (sym (rw (lt-leb (1 + row.1 + row.2) (length out) l)) ∙ size_decides) refl

    pub encoded_done : 1 + row.1 + row.2 ≤ length out → (e : List ℕ) →
        e ≡ (row.0 ∷ take row.1 p.1 ++ be_bytes row.2 p.2) ++ drop (1 + row.1 + row.2) out → Answers (Ok (1 + row.1 + row.2)) e
    unfolding encoded_with output_after instr_bytes
    encoded_done l e q =
        by (Ok (1 + row.1 + row.2)) e (sym (rw (le-leb (1 + row.1 + row.2) (length out) l)) ∙ size_decides) (q ∙ rw (regs_are i p row ep er, row_is i p row ep er, ep))
