-- Sorted rows: where a key stands in them, and what putting a row in does there. Assumes nothing.
use Rattle.std.specs.Prelude.{◌≡◌, refl, List, [], ◌∷◌, ◌++◌, ℕ, zero, suc, ◌≤◌, ◌<◌, length, take, drop, get_or, Some, None, Result, Ok, Err}
use Rattle.std.proofs.Common.{arith}
use Rattle.tables.specs.OrderLaws.{order_less, order_equal, order_greater, Tri, tri, below, same, above}
use Rattle.tables.specs.Rows.{Row, Rising, onward, find, insert, lookup}
use Rattle.tables.specs.Walks.{key_of_row}

pub rising_from : (lo : ℕ) (rs : List Row) (q : ℕ) → Rising lo rs → q < length rs → lo ≤ key_of_row rs q
unfolding key_of_row
rising_from lo [] q s h = absurd (omega arith)
rising_from lo (r ∷ rs) zero s h = s.0
rising_from lo (r ∷ rs) (suc q) s h = let l : suc r.key ≤ key_of_row rs q = rising_from (suc r.key) rs q s.1 (omega arith) in omega arith

pub rising_at : (lo : ℕ) (rs : List Row) (p q : ℕ) → Rising lo rs → p < q → q < length rs → key_of_row rs p < key_of_row rs q
unfolding key_of_row
rising_at lo [] p q s h k = absurd (omega arith)
rising_at lo (r ∷ rs) p zero s h k = absurd (omega arith)
rising_at lo (r ∷ rs) zero (suc q) s h k = rising_from (suc r.key) rs q s.1 (omega arith)
rising_at lo (r ∷ rs) (suc p) (suc q) s h k = rising_at (suc r.key) rs p q s.1 (omega arith) (omega arith)

pub find_at : (k : ℕ) (rs : List Row) (i : ℕ) → i < length rs → ((p : ℕ) → p < i → key_of_row rs p < k) → key_of_row rs i ≡ k → find k rs ≡ Ok i
unfolding find onward key_of_row
find_at k [] i h lt e = absurd (omega arith)
find_at k (r ∷ rs) zero h lt e = rw (order_equal r.key k e)
find_at k (r ∷ rs) (suc i) h lt e =
    let ih : find k rs ≡ Ok i = find_at k rs i (omega arith) (λ p l. lt (suc p) (omega arith)) e in
    rw (order_less r.key k (lt 0 (omega arith)), ih)

pub find_missing : (k : ℕ) (rs : List Row) (i : ℕ) → i ≤ length rs → ((p : ℕ) → p < i → key_of_row rs p < k) → ((p : ℕ) → i ≤ p → p < length rs → k < key_of_row rs p)
    → find k rs ≡ Err i
unfolding find onward key_of_row
find_missing k [] zero h lt gt = refl
find_missing k [] (suc i) h lt gt = absurd (omega arith)
find_missing k (r ∷ rs) zero h lt gt = rw (order_greater r.key k (gt 0 (omega arith) (omega arith)))
find_missing k (r ∷ rs) (suc i) h lt gt =
    let ih : find k rs ≡ Err i = find_missing k rs i (omega arith) (λ p l. lt (suc p) (omega arith)) (λ p l m. gt (suc p) (omega arith) (omega arith)) in
    rw (order_less r.key k (lt 0 (omega arith)), ih)

-- where `find` points, and what putting in does there
onward_missing : (f : Result ℕ ℕ) (i : ℕ) → onward f ≡ Err i → (j : ℕ) × (i ≡ suc j) × (f ≡ Err j)
unfolding onward
onward_missing (Ok k) i e = absurd cc
onward_missing (Err k) i e = (k, cc, refl)

onward_at : (f : Result ℕ ℕ) (i : ℕ) → onward f ≡ Ok i → (j : ℕ) × (i ≡ suc j) × (f ≡ Ok j)
unfolding onward
onward_at (Ok k) i e = (k, cc, refl)
onward_at (Err k) i e = absurd cc

pub insert_missing : (x : Row) (rs : List Row) (i : ℕ) → find x.key rs ≡ Err i
    → (i ≤ length rs) × (lookup x.key rs ≡ None) × (insert x rs ≡ take i rs ++ x ∷ drop i rs)
unfolding find insert lookup
insert_missing x [] i e = let z : i ≡ 0 = cc in (omega arith, refl, rw z)
insert_missing x (r ∷ rs) i e = go (insert_missing x rs) (tri r.key x.key)
  where
    go : ((j : ℕ) → find x.key rs ≡ Err j → (j ≤ length rs) × (lookup x.key rs ≡ None) × (insert x rs ≡ take j rs ++ x ∷ drop j rs))
        → Tri r.key x.key
        → (i ≤ suc (length rs)) × (lookup x.key (r ∷ rs) ≡ None) × (insert x (r ∷ rs) ≡ take i (r ∷ rs) ++ x ∷ drop i (r ∷ rs))
    go ih (below h o) =
        let (j, p, q) = onward_missing (find x.key rs) i (rw o at e) in
        let (l, m, n) = ih j q in
        (omega arith, rw o m, rw (o, p, n))
    go ih (same h o) = let told : ◌≡◌ {A = Result ℕ ℕ} (Ok 0) (Err i) = rw o at e in absurd cc
    go ih (above h o) = let told : Err 0 ≡ Err i = rw o at e in let z : i ≡ 0 = cc in (omega arith, rw o, rw (o, z))

pub insert_at : (x : Row) (rs : List Row) (i : ℕ) (d : Row) → find x.key rs ≡ Ok i
    → (i < length rs) × (lookup x.key rs ≡ Some (get_or rs i d).value) × (insert x rs ≡ take i rs ++ x ∷ drop (suc i) rs)
unfolding find insert lookup
insert_at x [] i d e = absurd cc
insert_at x (r ∷ rs) i d e = go (insert_at x rs) (tri r.key x.key)
  where
    go : ((j : ℕ) (d : Row) → find x.key rs ≡ Ok j →
        (j < length rs) × (lookup x.key rs ≡ Some (get_or rs j d).value) × (insert x rs ≡ take j rs ++ x ∷ drop (suc j) rs))
        → Tri r.key x.key
        → (i < suc (length rs)) × (lookup x.key (r ∷ rs) ≡ Some (get_or (r ∷ rs) i d).value)
        × (insert x (r ∷ rs) ≡ take i (r ∷ rs) ++ x ∷ drop (suc i) (r ∷ rs))
    go ih (below h o) =
        let (j, p, q) = onward_at (find x.key rs) i (rw o at e) in
        let (l, m, n) = ih j d q in
        (omega arith, rw (o, p) m, rw (o, p, n))
    go ih (same h o) = let told : Ok 0 ≡ Ok i = rw o at e in let z : i ≡ 0 = cc in (omega arith, rw (o, z), rw (o, z))
    go ih (above h o) = let told : ◌≡◌ {A = Result ℕ ℕ} (Err 0) (Ok i) = rw o at e in absurd cc
