-- A turn of the reading of the code up to a place. Assumes nothing.
use Rattle.std.specs.Prelude.{◌≡◌, refl, true, false, ℕ, ◌+◌, ◌-◌, ◌≤◌, ◌<◌, length, Ok, Err}
use Rattle.std.proofs.Math.Path.{sym}
use Rattle.std.proofs.Common.{ap, ◌∙◌, eq-eqb, ne_eqb}
use mathlib.Core.List.{List, [], ◌∷◌}
use Rattle.std.proofs.Math.Nat.{sub-zero}
use Rattle.words.specs.Lists.{member}
use Rattle.isa.specs.Codec.{decode_at}
use Rattle.isa.specs.declared.instr.Instr.{Instr}
use Rattle.isa.specs.declared.codec.DecodeError.{DecodeError}
use Rattle.starts.specs.Starts.{starts_by, starts_from, starts_of}
use Rattle.starts.specs.SweepLaws.{Sweep, at_end, on}

-- the starts from a place on, with as many turns as bytes are left
abbrev left : (code : List ℕ) (place : ℕ) → List ℕ
left code place = starts_from (length code - place) code place

sweep : (code : List ℕ) → Sweep code [] (λ p d k. starts_by d p k) (λ t p. starts_from t code p)
unfolding starts_from starts_by
sweep code = record {
  none = λ p. refl;
  turn = λ t p. refl;
  here = λ p e k l. refl;
  next = λ p i n k l h. rw h;
}

-- what is left of the code decides
pub record StartsLeft (code : List ℕ) (offset place : ℕ) : Type 0 where
  pub decides : member offset (starts_of code) ≡ member offset (left code place)

pub read_begins : (code : List ℕ) (offset : ℕ) → StartsLeft code offset 0
unfolding starts_of
read_begins code offset = record { decides = rw sub-zero }

module _ (code : List ℕ) (offset place : ℕ) (i : StartsLeft code offset place) where
  leaves : (ws : List ℕ) → left code place ≡ ws → member offset (starts_of code) ≡ member offset ws
  leaves ws e = i.decides ∙ ap (member offset) e

  pub read_end : length code ≤ place → false ≡ member offset (starts_of code)
  unfolding member
  read_end h = sym (leaves [] (at_end code [] _ _ (sweep code) place h))

  module _ (h : place < length code) where
    by_decode : left code place ≡ starts_by (decode_at code place) place (λ q. left code q)
    by_decode = on code [] _ _ (sweep code) place h

    pub read_refused : (e : DecodeError) → decode_at code place ≡ Err e → false ≡ member offset (starts_of code)
    unfolding starts_by member
    read_refused e d = sym (leaves [] (by_decode ∙ rw d))

    module _ (x : Instr) (n : ℕ) (d : decode_at code place ≡ Ok (x, n)) where
      goes : left code place ≡ place ∷ left code (place + n)
      unfolding starts_by
      goes = by_decode ∙ rw d

      pub read_here : place ≡ offset → true ≡ member offset (starts_of code)
      unfolding member
      read_here e = sym (leaves _ goes ∙ rw (eq-eqb place offset e))

      pub read_on : (place ≡ offset → ⊥) → StartsLeft code offset (place + n)
      unfolding member
      read_on q = record { decides = leaves _ goes ∙ rw (ne_eqb place offset q) }
