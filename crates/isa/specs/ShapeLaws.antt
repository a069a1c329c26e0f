-- What the proofs of decoding by shape cite. Assumes nothing.
use Prim.Native.Nat.{ℕ, ◌+◌, ◌≤◌, ◌<◌}
use Rattle.std.proofs.Math.Path.{◌≡◌, refl, ap}
use Rattle.std.proofs.Common.{sym, subst, ◌∙◌}
use Rattle.std.specs.Prelude.{List, [], Bool, T, length, take, drop, ℕ, Option, Some, None, Result, Ok, is_none}
use Rattle.std.proofs.Math.Bool.{true, false}
use native.Mathlib.Omega.{arith}
use Rattle.std.proofs.Math.Dec.{leb, eqb}
use mir.Val.{has_key}
use types.Run.{OneOf, hit}
use borrow.Author.Tests.{le-leb, lt-leb, leb-true, eq-eqb, eqb-true}
use Rattle.words.specs.Choice.{pick, both, either}
use Rattle.words.specs.Bytes.{num}
use Rattle.isa.specs.declared.opcode.OpCode.{OpCode}
use Rattle.isa.specs.declared.opcode.OpRow.{OpRow}
use Rattle.isa.specs.declared.instr.Instr.{Instr}
use Rattle.isa.specs.declared.codec.DecodeError.{DecodeError}
use Rattle.isa.specs.Table.{row_of, byte_of, regs_of, wide_of, opcodes}
use Rattle.isa.specs.TableLaws.{all_of, tests_where, same_byte}
use Rattle.isa.specs.Forms.{instr_of}
use Rattle.isa.specs.ComputedLaws.{from}
use Rattle.isa.specs.FormLaws.{own_regs}
use Rattle.isa.specs.Codec.{first_bad, refusal_in, unless, operands_of}
use Rattle.isa.specs.DecodeLaws.{refusal_by, refusal_is}
use Rattle.std.specs.Result.{result_ok}
use Rattle.isa.specs.Shapes.{Shape, refused_by}

-- ---- whether operands stand

pub stands_not : (n w : ℕ) (s : List ℕ) → length s < n + w → is_none (refusal_in n w s) ≡ false
stands_not n w s h = rw (refusal_is n w s, lt-leb (n + w) (length s) h) (by (first_bad (take n s)))
  where
    by : (f : Option ℕ) → is_none (refusal_by f false) ≡ false
    by (Some b) = refl
    by None = refl

-- with room for all, a register of 16 or more decides
pub stands_all : (n w : ℕ) (s : List ℕ) → n + w ≤ length s → is_none (refusal_in n w s) ≡ is_none (first_bad (take n s))
stands_all n w s h = rw (refusal_is n w s, le-leb (n + w) (length s) h) (by (first_bad (take n s)))
  where
    by : (f : Option ℕ) → is_none (refusal_by f true) ≡ is_none f
    by (Some b) = refl
    by None = refl

none_is : (x : Option DecodeError) → is_none x ≡ true → x ≡ None
none_is None e = refl
none_is (Some x) e = absurd (let z : ◌≡◌ {A = ℕ} 0 1 = cc in omega arith)

pub stands_room : (n w : ℕ) (s : List ℕ) → is_none (refusal_in n w s) ≡ true → n + w ≤ length s
stands_room n w s h = by (first_bad (take n s)) (leb (n + w) (length s)) refl (rw (refusal_is n w s) at h)
  where
    by : (f : Option ℕ) (t : Bool) → leb (n + w) (length s) ≡ t → is_none (refusal_by f t) ≡ true → n + w ≤ length s
    by f true e k = leb-true (n + w) (length s) e
    by (Some b) false e k = absurd (let z : ◌≡◌ {A = ℕ} 0 1 = cc in omega arith)
    by None false e k = absurd (let z : ◌≡◌ {A = ℕ} 0 1 = cc in omega arith)

-- ---- what the operands of an opcode of a shape say

module _ (o : OpCode) (s : List ℕ) (n w : ℕ) (h : Shape o n w) where
  pub shape_refused : is_none (refusal_in n w s) ≡ false → refused_by (first_bad (take n s)) ≡ operands_of o s
  unfolding operands_of unless
  shape_refused k = rw (h.0, h.1, refusal_is n w s) (by (first_bad (take n s)) (leb (n + w) (length s)) _ (rw (refusal_is n w s) at k))
    where
      by : (f : Option ℕ) (t : Bool) (d : Result (Instr × ℕ) DecodeError) → is_none (refusal_by f t) ≡ false → refused_by f ≡ unless (refusal_by f t) d
      by (Some b) t d e = refl
      by None true d e = absurd (let z : ◌≡◌ {A = ℕ} 0 1 = cc in omega arith)
      by None false d e = refl

  pub shape_done : is_none (refusal_in n w s) ≡ true → (i : Instr) → i ≡ instr_of o (from 0 n s) (num (take w (drop n s))) → Ok (i, 1 + n + w) ≡ operands_of o s
  unfolding operands_of unless
  shape_done k i e =
      let own : instr_of o (from 0 n s) (num (take w (drop n s))) ≡ instr_of o s (num (take w (drop n s))) = rw h.0 at (own_regs o s (num (take w (drop n s)))) in
      rw (h.0, h.1, none_is (refusal_in n w s) k, e ∙ own)

  -- the same as shapes tell it, which leave the reason to decode
  pub shape_none : is_none (refusal_in n w s) ≡ false → None ≡ result_ok (operands_of o s)
  shape_none k = by (first_bad (take n s)) ∙ ap result_ok (shape_refused k)
    where
      by : (f : Option ℕ) → None ≡ result_ok (refused_by f)
      by (Some b) = refl
      by None = refl

-- what a shape leaves is refused
pub refused_told : (o : OpCode) (s : List ℕ) → None ≡ result_ok (operands_of o s) → refused_by (first_bad (take (regs_of o) s)) ≡ operands_of o s
unfolding operands_of unless
refused_told o s h = shape_refused o s (regs_of o) (wide_of o) (refl, refl) (by (refusal_in (regs_of o) (wide_of o) s) _ h)
  where
    by : (x : Option DecodeError) (d : Instr × ℕ) → None ≡ result_ok (unless x (Ok d)) → is_none x ≡ false
    by None d e = absurd (let z : ◌≡◌ {A = ℕ} 0 1 = cc in omega arith)
    by (Some x) d e = refl

-- ---- shapes, computed over the table

abbrev pub shaped : ℕ → ℕ → OpCode → Bool
shaped n w o = both (eqb (regs_of o) n) (eqb (wide_of o) w)

-- where a test leaves one opcode of a shape
pub only : (f : OpCode → Bool) (n w : ℕ) (p : OpCode) →
    all_of (λ (o : OpCode). pick (both (shaped n w o) (f o)) (eqb (byte_of o) (byte_of p)) true) opcodes ≡ true →
    (o : OpCode) → Shape o n w → f o ≡ true → o ≡ p
only f n w p h o e k =
    same_byte o p (eqb-true (byte_of o) (byte_of p)
    (tests_where (λ (o : OpCode). both (shaped n w o) (f o)) (λ (o : OpCode). eqb (byte_of o) (byte_of p)) h o
    (rw (eq-eqb (regs_of o) n e.0, eq-eqb (wide_of o) w e.1, k))))

-- after n registers a number has k bytes where its width is none of some
pub widths : (ks : List ℕ) (k n w : ℕ) →
    all_of (λ (o : OpCode). pick (eqb (regs_of o) n) (either (eqb (wide_of o) k) (has_key ks (wide_of o))) true) opcodes ≡ true →
    (o : OpCode) → Shape o n w → (OneOf ks w → ⊥) → w ≡ k
widths ks k n w h o e others =
    go (eqb w k) refl (rw e.1 at (tests_where (λ (o : OpCode). eqb (regs_of o) n) (λ (o : OpCode). either (eqb (wide_of o) k) (has_key ks (wide_of o))) h o (eq-eqb (regs_of o) n e.0)))
  where
    go : (t : Bool) → eqb w k ≡ t → either t (has_key ks w) ≡ true → w ≡ k
    go true q j = eqb-true w k q
    go false q j = absurd (others (hit ks w (subst T (sym j) tt)))

-- the row of an opcode tells its shape
module _ (o : OpCode) (row : OpRow) (r : row ≡ row_of o) where
  pub row_shape : (n : ℕ) → row.1 ≡ n → Shape o n row.2
  row_shape n e = (sym (ap (λ (x : OpRow). x.1) r) ∙ e, sym (ap (λ (x : OpRow). x.2) r))

  pub row_bare : (n : ℕ) → all_of (λ (o : OpCode). pick (eqb (regs_of o) n) (either (eqb (wide_of o) 0) false) true) opcodes ≡ true → row.1 ≡ n → Shape o n 0
  row_bare n h e = let s = row_shape n e in (s.0, s.1 ∙ widths [] 0 n row.2 h o s (λ e. e))

  pub row_six : 4 ≤ row.1 → Shape o 6 0
  unfolding row_of
  row_six h =
      let e : row.1 ≡ regs_of o = ap (λ (x : OpRow). x.1) r in
      row_bare 6 refl (e ∙ eqb-true (regs_of o) 6 (tests_where (λ (o : OpCode). leb 4 (regs_of o)) (λ (o : OpCode). eqb (regs_of o) 6) refl o (le-leb 4 (regs_of o) (omega (arith, e)))))
