-- Reading code from place to place: as many turns as bytes are left are enough. Assumes nothing.
use Rattle.std.specs.Prelude.{◌≡◌, refl, Bool, true, false, List, ℕ, zero, suc, ◌+◌, ◌-◌, ◌≤◌, ◌<◌, leb, length, Result, Ok, Err}
use Rattle.std.proofs.Common.{sym, ap, ◌∙◌, arith, le-leb, leb-true, leb-false}
use Rattle.std.proofs.lemmas.Bool.{lt-leb}
use Rattle.words.specs.Choice.{pick}
use Rattle.isa.specs.Codec.{decode_at}
use Rattle.isa.specs.RoundTripTheorems.{decode_place}
use Rattle.isa.specs.declared.instr.Instr.{Instr}
use Rattle.isa.specs.declared.codec.DecodeError.{DecodeError}

-- a reading F by turns: it stops at the code's end, and else goes by what is decoded, on to the place after it
pub record Sweep {A : Type 0} (code : List ℕ) (stop : A) (by : ℕ → Result (Instr × ℕ) DecodeError → (ℕ → A) → A) (F : ℕ → ℕ → A) : Type 0 where
  pub none : (p : ℕ) → F zero p ≡ stop
  pub turn : (t p : ℕ) → F (suc t) p ≡ pick (leb (length code) p) stop (by p (decode_at code p) (F t))
  pub here : (p : ℕ) (e : DecodeError) (k l : ℕ → A) → by p (Err e) k ≡ by p (Err e) l
  pub next : (p : ℕ) (i : Instr) (n : ℕ) (k l : ℕ → A) → k (p + n) ≡ l (p + n) → by p (Ok (i, n)) k ≡ by p (Ok (i, n)) l

module _ {A : Type 0} (code : List ℕ) (stop : A) (by : ℕ → Result (Instr × ℕ) DecodeError → (ℕ → A) → A) (F : ℕ → ℕ → A) (s : Sweep code stop by F) where
  past : (t p : ℕ) → length code ≤ p → F t p ≡ stop
  past zero p h = s.none p
  past (suc t) p h = s.turn t p ∙ rw (le-leb (length code) p h)

  -- a decoded place goes on alike where what follows it does
  alike : (p : ℕ) (k l : ℕ → A) → p < length code → ((q : ℕ) → p < q → k q ≡ l q) → by p (decode_at code p) k ≡ by p (decode_at code p) l
  alike p k l h same = go (decode_at code p) refl
    where
      go : (d : Result (Instr × ℕ) DecodeError) → decode_at code p ≡ d → by p d k ≡ by p d l
      go (Err e) q = s.here p e k l
      go (Ok (i, n)) q = s.next p i n k l (same (p + n) (omega (arith, (decode_place code p i n q).least)))

  enough : (t u p : ℕ) → length code - p ≤ t → length code - p ≤ u → F t p ≡ F u p
  enough zero u p h k = s.none p ∙ sym (past u p (omega arith))
  enough (suc t) zero p h k = past (suc t) p (omega arith) ∙ sym (s.none p)
  enough (suc t) (suc u) p h k = go (leb (length code) p) refl (λ (q : ℕ) (l : p < q). enough t u q (omega arith) (omega arith))
    where
      go : (b : Bool) → leb (length code) p ≡ b → ((q : ℕ) → p < q → F t q ≡ F u q) → F (suc t) p ≡ F (suc u) p
      go true e ih = past (suc t) p (leb-true (length code) p e) ∙ sym (past (suc u) p (leb-true (length code) p e))
      go false e ih = rw (s.turn t p, s.turn u p, e) (alike p (F t) (F u) (leb-false (length code) p e) ih)

  pub at_end : (p : ℕ) → length code ≤ p → F (length code - p) p ≡ stop
  at_end p h = past (length code - p) p h

  pub on : (p : ℕ) → p < length code → F (length code - p) p ≡ by p (decode_at code p) (λ q. F (length code - q) q)
  on p h =
      let t = length code - (p + 1) in
      let e : length code - p ≡ suc t = omega arith in
      ap (λ (n : ℕ). F n p) e ∙ s.turn t p ∙ rw (lt-leb (length code) p h)
      (alike p (F t) (λ q. F (length code - q) q) h (λ q l. enough t (length code - q) q (omega arith) (omega arith)))
