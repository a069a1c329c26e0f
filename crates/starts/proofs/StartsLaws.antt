-- The instruction starts: none lies past the code, and verify's reading meets all of them where there are 65536 constants. Assumes nothing.
use Rattle.std.specs.Prelude.{◌≡◌, Bool, leb, length, ℕ, Result, Ok, Err}
use Rattle.std.proofs.Math.Path.{refl, ap}
use Rattle.std.proofs.Common.{subst, ◌∙◌, arith, lt-ltb, leb-false, ne_eqb}
use Rattle.std.proofs.Math.Bool.{true, false}
use mathlib.Core.List.{List, [], ◌∷◌}
use Prim.Native.Nat.{ℕ, zero, suc, ◌+◌, ◌≤◌, ◌<◌}
use Rattle.words.specs.Bytes.{Bytes}
use Rattle.words.specs.Choice.{pick}
use Rattle.words.specs.Lists.{member}
use Rattle.isa.specs.Codec.{decode_at}
use Rattle.isa.specs.Refers.{refers_to}
use Rattle.isa.specs.RefersLaws.{index_small}
use Rattle.isa.specs.RoundTripTheorems.{decode_stands}
use Rattle.isa.specs.declared.flow.Refers.{Refers}
use Rattle.isa.specs.declared.flow.Refers.TheVariants.{Const, Target, Nothing}
use Rattle.starts.specs.Marks.{Marks}
use Rattle.starts.specs.Starts.{starts_by, starts_from, starts_of}
use Rattle.starts.specs.Walk.{Walk, ended, met, unless_bad, walk_by, walk, walk_of}
use Rattle.isa.specs.declared.instr.Instr.{Instr}
use Rattle.isa.specs.declared.codec.DecodeError.{DecodeError}

none_past : (code : List ℕ) (p : ℕ) → length code ≤ p → (t place : ℕ) → member p (starts_from t code place) ≡ false
unfolding starts_from starts_by member
none_past code p h zero place = refl
none_past code p h (suc t) place = by (leb (length code) place) refl (decode_at code place) (λ next. none_past code p h t next)
  where
    by : (b : Bool) → leb (length code) place ≡ b → (d : Result (Instr × ℕ) DecodeError) → ((next : ℕ) → member p (starts_from t code next) ≡ false) →
        member p (pick b [] (starts_by d place (λ next. starts_from t code next))) ≡ false
    by true e d ih = refl
    by false e (Err x) ih = refl
    by false e (Ok (i, n)) ih = rw (ne_eqb place p (λ z. omega (arith, leb-false (length code) place e))) (ih (place + n))

pub starts_end : (code : List ℕ) (p : ℕ) → length code ≤ p → member p (starts_of code) ≡ false
unfolding starts_of
starts_end code p h = none_past code p h (length code) 0

-- an index that is small enough ends no reading
stays : (r : Refers) (consts : ℕ) (w : Walk) → ((k : ℕ) → r ≡ Const k → k < consts) → unless_bad r consts w ≡ w
unfolding unless_bad
stays (Const k) consts w h = rw (lt-ltb k consts (h k refl))
stays (Target t) consts w h = refl
stays Nothing consts w h = refl

module _ (code : List ℕ) (consts : ℕ) (all : Bytes code) (h : 65536 ≤ consts) where
  walk_from_lem : (t place : ℕ) → (walk t code consts place).starts ≡ starts_from t code place
  unfolding walk walk_by ended met starts_from starts_by
  walk_from_lem zero place = refl
  walk_from_lem (suc t) place = by (leb (length code) place) (decode_at code place) refl (λ next. walk_from_lem t next)
    where
      by : (b : Bool) (d : Result (Instr × ℕ) DecodeError) → decode_at code place ≡ d → ((next : ℕ) → (walk t code consts next).starts ≡ starts_from t code next) →
          (pick b (ended (Ok tt)) (walk_by d consts place (λ next. walk t code consts next))).starts ≡ pick b [] (starts_by d place (λ next. starts_from t code next))
      by true d e ih = refl
      by false (Err x) e ih = refl
      by false (Ok (i, n)) e ih =
          let small : (k : ℕ) → refers_to i ≡ Const k → k < consts = λ k q. omega (arith, index_small i k (decode_stands code place i n all e).in_range q) in
          ap (λ (w : Walk). place ∷ w.starts) (stays (refers_to i) consts (walk t code consts (place + n)) small) ∙ ap (λ (ws : List ℕ). place ∷ ws) (ih (place + n))

  pub walk_starts : (walk_of code consts).starts ≡ starts_of code
  unfolding walk_of starts_of
  walk_starts = walk_from_lem (length code) 0

  -- a map in which that reading marked what it met
  pub marks_starts : (first before after : List ℕ) → first ≡ before → Marks first (walk_of code consts).starts after → Marks before (starts_of code) after
  marks_starts first before after e m =
      subst (λ (map : List ℕ). Marks map (starts_of code) after) e (subst (λ (ws : List ℕ). Marks first ws after) walk_starts m)
