-- What a marked place changes in a map of bits. Assumes nothing.
use Rattle.std.specs.Prelude.{◌≡◌, refl, Bool, true, false, List, ℕ, zero, suc, ◌*◌, ◌/◌, ◌%◌, ◌^◌, ◌≤◌, ◌<◌, eqb, length, get_or}
use Rattle.std.proofs.Common.{sym, ap, arith, get_or-set_same, get_or-set_other, eq-eqb, ne_eqb, eqb-true}
use Rattle.std.proofs.Math.Nat.{zero-div}
use Rattle.std.specs.Int.Bits.{bit_or}
use Rattle.std.proofs.lemmas.Nat.{or_shr, or_mod}
use Rattle.std.proofs.Math.ListN.{get_or-eq_default}
use Rattle.std.proofs.lemmas.Bool.{eqb-false}
use Rattle.words.specs.Choice.{both, either, bit}
use Rattle.starts.specs.Marks.{marked, mark_in}

-- a test that holds of every number below one
abbrev all_below : ℕ → (ℕ → Bool) → Bool
all_below zero f = true
all_below (suc n) f = both (f n) (all_below n f)

below : (n : ℕ) (f : ℕ → Bool) → all_below n f ≡ true → (k : ℕ) → k < n → f k ≡ true
below zero f h k l = absurd (omega arith)
below (suc n) f h k l = by (f n) refl h (eqb k n) refl (below n f)
  where
    by : (t : Bool) → f n ≡ t → both t (all_below n f) ≡ true → (e : Bool) → eqb k n ≡ e → (all_below n f ≡ true → (k : ℕ) → k < n → f k ≡ true) → f k ≡ true
    by true q r true e ih = rw (eqb-true k n e) q
    by true q r false e ih = ih r k (omega (arith, eqb-false k n e))
    by false q r e z ih = absurd (let y : ◌≡◌ {A = ℕ} 0 1 = cc in omega arith)

-- bit i of 2 ^ j is set where i is j
power_bit : (i j : ℕ) → i < 8 → j < 8 → 2 ^ j / 2 ^ i % 2 ≡ bit (eqb j i)
power_bit i j h k =
    eqb-true _ _ (below 8 (λ (i : ℕ). eqb (2 ^ j / 2 ^ i % 2) (bit (eqb j i)))
    (below 8 (λ (j : ℕ). all_below 8 (λ (i : ℕ). eqb (2 ^ j / 2 ^ i % 2) (bit (eqb j i)))) refl j k) i h)

-- a bit that may be set
or_bit : (x : ℕ) (t : Bool) → x < 2 → eqb (bit_or x (bit t)) 1 ≡ either t (eqb x 1)
or_bit zero true h = refl
or_bit zero false h = refl
or_bit (suc zero) true h = refl
or_bit (suc zero) false h = refl
or_bit (suc (suc x)) t h = absurd (omega arith)

-- two places of one byte are one where their bits are
same_place : (p q : ℕ) → q / 8 ≡ p / 8 → eqb (q % 8) (p % 8) ≡ eqb q p
same_place p q e = by (eqb q p) refl
  where
    by : (t : Bool) → eqb q p ≡ t → eqb (q % 8) (p % 8) ≡ t
    by true h = let k = eqb-true q p h in eq-eqb (q % 8) (p % 8) (ap (λ (n : ℕ). n % 8) k)
    by false h = ne_eqb (q % 8) (p % 8) (λ z. eqb-false q p h (omega arith))

-- of the places within the map, the marked one alone changes
pub mark_at : (map : List ℕ) (q p : ℕ) → p < 8 * length map → marked (mark_in map q) p ≡ either (eqb q p) (marked map p)
unfolding marked mark_in
mark_at map q p h = by (eqb (q / 8) (p / 8)) refl
  where
    by : (t : Bool) → eqb (q / 8) (p / 8) ≡ t → marked (mark_in map q) p ≡ either (eqb q p) (marked map p)
    by true e =
        let k : q / 8 ≡ p / 8 = eqb-true (q / 8) (p / 8) e in
        let b : ℕ = get_or map (p / 8) 0 in
        let l : p / 8 < length map = omega arith in
        rw (
          k,
          get_or-set_same map (p / 8) (bit_or b (2 ^ (q % 8))) 0 l,
          or_shr b (2 ^ (q % 8)) (p % 8),
          or_mod (b / 2 ^ (p % 8)) (2 ^ (q % 8) / 2 ^ (p % 8)) 1,
          power_bit (p % 8) (q % 8) (omega arith) (omega arith),
          same_place p q k,
        )
        (or_bit (b / 2 ^ (p % 8) % 2) (eqb q p) (omega arith))
    by false e =
        let n : q / 8 ≡ p / 8 → ⊥ = eqb-false (q / 8) (p / 8) e in
        rw (get_or-set_other map (q / 8) (p / 8) (bit_or (get_or map (q / 8) 0) (2 ^ (q % 8))) 0 (λ z. n (sym z)), ne_eqb q p (λ z. n (ap (λ (m : ℕ). m / 8) z)))

pub past_map : (map : List ℕ) (p : ℕ) → length map ≤ p / 8 → false ≡ marked map p
unfolding marked
past_map map p h = rw (get_or-eq_default map 0 h, zero-div (2 ^ (p % 8)))
