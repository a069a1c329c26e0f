-- Neighbours that rise, and the test that all do. Assumes nothing.
use Rattle.std.specs.Prelude.{◌≡◌, refl, Bool, true, false, List, [], ◌∷◌, ◌⊎◌, ℕ, suc, ◌+◌, ◌≤◌, ◌<◌, length, leb}
use Rattle.std.proofs.Common.{inl, inr, arith, eq-or-lt_of_le, le-leb, leb-true}
use Rattle.tables.specs.Rows.{Row, Rising}
use Rattle.tables.specs.Checked.{risingb}
use Rattle.tables.specs.Walks.{key_of_row, Adjacent}
use Rattle.tables.specs.SortedLaws.{rising_at}

adjacent_rising : (lo : ℕ) (rs : List Row) → Adjacent rs (length rs) → (0 < length rs → lo ≤ key_of_row rs 0) → Rising lo rs
unfolding key_of_row
adjacent_rising lo [] a h = tt
adjacent_rising lo (r ∷ rs) a h = (h (omega arith), adjacent_rising (suc r.key) rs (λ p l. a (suc p) (omega arith)) (λ l. a 0 (omega arith)))

-- the test and the fact
pub rising_true : (lo : ℕ) (rs : List Row) → Rising lo rs → risingb lo rs ≡ true
unfolding risingb
rising_true lo [] s = refl
rising_true lo (r ∷ rs) s = rw (le-leb lo r.key s.0) (rising_true (suc r.key) rs s.1)

pub true_rising : (lo : ℕ) (rs : List Row) → risingb lo rs ≡ true → Rising lo rs
unfolding risingb
true_rising lo [] s = tt
true_rising lo (r ∷ rs) s = go (true_rising (suc r.key) rs) (leb lo r.key) refl
  where
    go : (risingb (suc r.key) rs ≡ true → Rising (suc r.key) rs) → (b : Bool) → leb lo r.key ≡ b → (lo ≤ r.key) × Rising (suc r.key) rs
    go ih true e = (leb-true lo r.key e, ih (rw e at s))
    go ih false e = let told : false ≡ true = rw e at s in absurd cc

not_rising : (rs : List Row) → (Rising 0 rs → ⊥) → risingb 0 rs ≡ false
not_rising rs h = go (risingb 0 rs) refl
  where
    go : (b : Bool) → risingb 0 rs ≡ b → risingb 0 rs ≡ false
    go true e = absurd (h (true_rising 0 rs e))
    go false e = e

-- in a turn of the loop, and at its ends
pub adjacent_more : (rs : List Row) (i j : ℕ) → i ≡ suc j → Adjacent rs i → key_of_row rs j < key_of_row rs i → Adjacent rs (i + 1)
adjacent_more rs i j e a h p l = go (eq-or-lt_of_le (omega arith))
  where
    go : (suc p ≡ i) ⊎ (suc p < i) → key_of_row rs p < key_of_row rs (suc p)
    go (inl q) = let pj : p ≡ j = omega arith in rw (q, pj) h
    go (inr q) = a p q

pub adjacent_all : (rs : List Row) (n i : ℕ) → length rs ≡ n → n ≤ i → Adjacent rs i → risingb 0 rs ≡ true
adjacent_all rs n i e h a = rising_true 0 rs (adjacent_rising 0 rs (λ p l. a p (omega arith)) (λ l. omega arith))

pub adjacent_not : (rs : List Row) (n i j : ℕ) → length rs ≡ n → i ≡ suc j → i < n → key_of_row rs i ≤ key_of_row rs j → risingb 0 rs ≡ false
adjacent_not rs n i j e q h k = not_rising rs (λ s. omega (arith, rising_at 0 rs j i s (omega arith) (omega arith)))
