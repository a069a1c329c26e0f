-- Rows counted and looked for in sorted tables. Assumes nothing.
use Rattle.std.specs.Prelude.{◌≡◌, refl, Bool, true, false, not, List, [], ◌∷◌, ℕ, suc, ◌+◌, ◌≤◌, ◌<◌, length, eqb, Some, None, is_some}
use Rattle.std.proofs.Common.{sym, arith, zero-add, eq-eqb, ne_eqb}
use Rattle.words.specs.Choice.{either, bit}
use Rattle.tables.specs.Rows.{Row, Rising, insert, lookup}
use Rattle.tables.specs.OrderLaws.{Tri, tri}
use Rattle.tables.specs.OrderLaws.Tri.{below, same, above}
use Rattle.tables.specs.RowsTheorems.{length_insert, lookup_insert_same, lookup_insert_other}
use Rattle.keys.specs.Values.{has, row}
use Rattle.promises.specs.Grown.{tally}

bit_le : (b : Bool) → bit b ≤ 1
bit_le true = omega arith
bit_le false = omega arith

-- whether a key stands in rows once a row was put in
pub has_insert : (k : ℕ) (x : Row) (rs : List Row) → has k (insert x rs) ≡ either (eqb x.key k) (has k rs)
has_insert k x rs = go (tri x.key k)
  where
    other : (x.key ≡ k → ⊥) → has k (insert x rs) ≡ either (eqb x.key k) (has k rs)
    other apart = rw (ne_eqb x.key k apart, lookup_insert_other k x rs apart)

    go : Tri x.key k → has k (insert x rs) ≡ either (eqb x.key k) (has k rs)
    go (below l o) = other (λ q. omega arith)
    go (same l o) = rw (eq-eqb x.key k l, ← l, lookup_insert_same x rs)
    go (above l o) = other (λ q. omega arith)

pub has_same : (x : Row) (rs : List Row) → has x.key (insert x rs) ≡ true
has_same x rs = rw (has_insert x.key x rs, eq-eqb x.key x.key refl)

pub has_more : (j : ℕ) (x : Row) (rs : List Row) → has j rs ≡ true → has j (insert x rs) ≡ true
has_more j x rs h = rw (has_insert j x rs, h) (go (eqb x.key j))
  where
    go : (b : Bool) → either b true ≡ true
    go true = refl
    go false = refl

pub length_more : (x : Row) (rs : List Row) → length (insert x rs) ≤ length rs + 1
length_more x rs = omega (arith, length_insert x rs, bit_le (not (is_some (lookup x.key rs))))

-- ---- counting

pub tally_le : (f g h : Row → Bool) (rs : List Row) → ((r : Row) → bit (f r) ≤ bit (g r) + bit (h r)) → tally f rs ≤ tally g rs + tally h rs
unfolding tally
tally_le f g h [] p = omega arith
tally_le f g h (r ∷ rs) p = omega (arith, p r, tally_le f g h rs p)

pub tally_mono : (f g : Row → Bool) (rs : List Row) → ((r : Row) → bit (f r) ≤ bit (g r)) → tally f rs ≤ tally g rs
unfolding tally
tally_mono f g [] p = omega arith
tally_mono f g (r ∷ rs) p = omega (arith, p r, tally_mono f g rs p)

pub tally_length : (f : Row → Bool) (rs : List Row) → tally f rs ≤ length rs
unfolding tally
tally_length f [] = omega arith
tally_length f (r ∷ rs) = omega (arith, bit_le (f r), tally_length f rs)

-- a row put in counts at most itself more
pub tally_insert : (f : Row → Bool) (x : Row) (rs : List Row) → tally f (insert x rs) ≤ tally f rs + bit (f x)
unfolding tally insert
tally_insert f x [] = omega arith
tally_insert f x (r ∷ rs) = go (tally_insert f x rs) (tri r.key x.key)
  where
    go : tally f (insert x rs) ≤ tally f rs + bit (f x) → Tri r.key x.key → tally f (insert x (r ∷ rs)) ≤ tally f (r ∷ rs) + bit (f x)
    go ih (below h e) = rw e (omega arith)
    go ih (same h e) = rw e (omega arith)
    go ih (above h e) = rw e (omega arith)

-- and nothing more, where a row stood that counted as much
pub tally_again : (f : Row → Bool) (x : Row) (rs : List Row) (u : ℕ) → lookup x.key rs ≡ Some u → bit (f x) ≤ bit (f (row x.key u)) →
    tally f (insert x rs) ≤ tally f rs
unfolding tally insert lookup
tally_again f x [] u l h = absurd (let z : ◌≡◌ {A = ℕ} 0 1 = cc in omega arith)
tally_again f x (r ∷ rs) u l h = go (tally_again f x rs u) (tri r.key x.key)
  where
    go : (lookup x.key rs ≡ Some u → bit (f x) ≤ bit (f (row x.key u)) → tally f (insert x rs) ≤ tally f rs) → Tri r.key x.key →
        tally f (insert x (r ∷ rs)) ≤ tally f (r ∷ rs)
    go ih (below q e) = rw e (omega (arith, ih (rw e at l) h))
    go ih (same q e) =
        let s : Some r.value ≡ Some u = rw e at l in
        let w : u ≡ r.value = cc in
        let k : row x.key u ≡ r = λ i. record { key = sym q i; value = w i } in
        rw e (omega (arith, rw k at h))
    go ih (above q e) = let s : None ≡ Some u = rw e at l in absurd (let z : ◌≡◌ {A = ℕ} 0 1 = cc in omega arith)

-- a key stands at most once
none_below : (q lo : ℕ) (rs : List Row) → q < lo → Rising lo rs → tally (λ (r : Row). eqb r.key q) rs ≡ 0
unfolding tally
none_below q lo [] h s = refl
none_below q lo (r ∷ rs) h s = rw (ne_eqb r.key q (λ e. omega (arith, s.0)), zero-add) (none_below q (suc r.key) rs (omega (arith, s.0)) s.1)

one_key : (q lo : ℕ) (rs : List Row) → Rising lo rs → tally (λ (r : Row). eqb r.key q) rs ≤ 1
unfolding tally
one_key q lo [] s = omega arith
one_key q lo (r ∷ rs) s = go (one_key q (suc r.key) rs s.1) (tri r.key q)
  where
    go : tally (λ (r : Row). eqb r.key q) rs ≤ 1 → Tri r.key q → tally (λ (r : Row). eqb r.key q) (r ∷ rs) ≤ 1
    go ih (below h e) = rw (ne_eqb r.key q (λ z. omega arith), zero-add) ih
    go ih (same h e) = rw (eq-eqb r.key q h, none_below q (suc r.key) rs (omega arith) s.1) (omega arith)
    go ih (above h e) = rw (ne_eqb r.key q (λ z. omega arith), zero-add) ih

none_pass : (rs : List Row) → tally (λ (r : Row). false) rs ≤ 0
unfolding tally
none_pass [] = omega arith
none_pass (r ∷ rs) = rw zero-add (none_pass rs)

-- keys that stand in ps are no more than ps is long
pub tally_has : (ps rs : List Row) → Rising 0 rs → tally (λ (r : Row). has r.key ps) rs ≤ length ps
unfolding lookup
tally_has [] rs s = none_pass rs
tally_has (p ∷ ps) rs s =
    omega (arith, tally_le (λ (r : Row). has r.key (p ∷ ps)) (λ (r : Row). eqb r.key p.key) (λ (r : Row). has r.key ps) rs (λ r. go r (tri p.key r.key)), one_key p.key 0 rs s, tally_has ps rs s)
  where
    go : (r : Row) → Tri p.key r.key → bit (has r.key (p ∷ ps)) ≤ bit (eqb r.key p.key) + bit (has r.key ps)
    go r (below h e) = rw e (omega arith)
    go r (same h e) = rw (e, eq-eqb r.key p.key (sym h)) (omega arith)
    go r (above h e) = rw e (omega arith)
