-- What holds of every reading of the code: its starts lie in the code, and few enough indexes never are too many. Assumes nothing.
use Rattle.std.specs.Prelude.{◌≡◌, refl, Bool, true, false, List, ℕ, zero, suc, ◌+◌, ◌*◌, ◌/◌, ◌%◌, ◌^◌, ◌≤◌, ◌<◌, leb, ltb, length, replicate, Result, Ok, Err}
use Rattle.std.proofs.Common.{sym, ◌∙◌, arith, leb-false, ltb-true, ltb-false, ne_eqb}
use Rattle.std.proofs.Math.Nat.{zero-div}
use Rattle.std.proofs.lemmas.List.{length-replicate, get_or-replicate}
use Rattle.words.specs.Choice.{pick, either}
use Rattle.words.specs.Lists.{member}
use Rattle.isa.specs.Codec.{decode_at}
use Rattle.isa.specs.declared.instr.Instr.{Instr}
use Rattle.isa.specs.declared.codec.DecodeError.{DecodeError}
use Rattle.starts.specs.Walk.{Walk, ended, met, unless_bad, walk_by, walk, walk_of}
use Rattle.isa.specs.Refers.{refers_to}
use Rattle.starts.specs.Marks.{marked, Marks, Holds}
use Rattle.starts.specs.MarkLaws.{past_map}
use Rattle.isa.specs.declared.flow.Refers.{Refers}
use Rattle.isa.specs.declared.flow.Refers.TheVariants.{Const, Target, Nothing}
use Rattle.starts.specs.declared.scan_answers.ScanError.TheVariants as ScanError

-- what holds where a reading stops, and is kept by each instruction met, holds of every reading
pub record Kept (code : List ℕ) (consts : ℕ) (P : Walk → Type 0) : Type 0 where
  pub whole : P (ended (Ok tt))
  pub refused : (place : ℕ) (e : DecodeError) → P (ended (Err (ScanError.Undecodable place e)))
  pub more : (place : ℕ) (i : Instr) (n : ℕ) → place < length code → decode_at code place ≡ Ok (i, n) → (w : Walk) → P w →
      P (met place (unless_bad (refers_to i) consts w))

pub walk_keeps : (code : List ℕ) (consts : ℕ) (P : Walk → Type 0) → Kept code consts P → (t place : ℕ) → P (walk t code consts place)
unfolding walk walk_by
walk_keeps code consts P k zero place = k.whole
walk_keeps code consts P k (suc t) place = by (leb (length code) place) refl (decode_at code place) refl (λ next. walk_keeps code consts P k t next)
  where
    by : (b : Bool) → leb (length code) place ≡ b → (d : Result (Instr × ℕ) DecodeError) → decode_at code place ≡ d → ((next : ℕ) → P (walk t code consts next)) →
        P (pick b (ended (Ok tt)) (walk_by d consts place (λ next. walk t code consts next)))
    by true q d e ih = k.whole
    by false q (Err x) e ih = k.refused place x
    by false q (Ok (i, n)) e ih = k.more place i n (leb-false (length code) place q) e (walk t code consts (place + n)) (ih (place + n))

-- a bad constant only takes starts away
fewer : (r : Refers) (consts p : ℕ) (w : Walk) → member p w.starts ≡ false → member p (unless_bad r consts w).starts ≡ false
unfolding unless_bad ended member
fewer (Const k) consts p w h = by (ltb k consts)
  where
    by : (b : Bool) → member p (pick b w (ended (Err (ScanError.BadConst k)))).starts ≡ false
    by true = h
    by false = refl
fewer (Target t) consts p w h = h
fewer Nothing consts p w h = h

pub starts_within : (code : List ℕ) (consts p : ℕ) → length code ≤ p → member p (walk_of code consts).starts ≡ false
unfolding walk_of ended met member
starts_within code consts p h =
    walk_keeps code consts (λ (w : Walk). member p w.starts ≡ false)
    (record {
      whole = refl;
      refused = λ place e. refl;
      more = λ place i n l d w k. rw (ne_eqb place p (λ z. omega arith)) (fewer (refers_to i) consts p w k);
    })
    (length code) 0

zero_unmarked : (n p : ℕ) → p < 8 * n → marked (replicate n 0) p ≡ false
unfolding marked
zero_unmarked n p h = rw (get_or-replicate {A = ℕ} n (p / 8) 0 0 (omega arith), zero-div (2 ^ (p % 8)))

-- a map of zeroes with places marked, none of them past it, holds them
pub holds_marked : (n : ℕ) (places map : List ℕ) → ((p : ℕ) → 8 * n ≤ p → member p places ≡ false) → Marks (replicate n 0) places map → Holds map places
holds_marked n places map past m = record { at = λ p. by p (ltb p (8 * n)) refl }
  where
    or_false : (a b : Bool) → b ≡ false → either a b ≡ a
    or_false true b e = refl
    or_false false b e = e

    by : (p : ℕ) (t : Bool) → ltb p (8 * n) ≡ t → marked map p ≡ member p places
    by p true q =
        let l = ltb-true p (8 * n) q in
        m.at p (rw length-replicate l) ∙ or_false (member p places) (marked (replicate n 0) p) (zero_unmarked n p l)
    by p false q =
        let l = ltb-false p (8 * n) q in
        sym (past_map map p (omega (arith, m.size, length-replicate {A = ℕ} n 0))) ∙ sym (past p l)
