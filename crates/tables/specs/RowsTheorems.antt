-- Sorted rows as a map: looking up after putting in, the count, the order, and that lookups tell the rows. Assumes nothing.
use Rattle.std.specs.Prelude.{◌≡◌, refl, not, List, [], ◌∷◌, ℕ, suc, ◌+◌, ◌≤◌, ◌<◌, length, Some, None, is_some}
use Rattle.std.proofs.Common.{sym, ap, ◌∙◌, arith}
use Rattle.words.specs.Choice.{bit}
use Rattle.tables.specs.OrderLaws.{order_less, order_equal, order_greater, Tri, tri, below, same, above}
use Rattle.tables.specs.Rows.{Row, Rising, insert, lookup}

-- the value put in is found at its key
pub lookup_insert_same : (x : Row) (rs : List Row) → lookup x.key (insert x rs) ≡ Some x.value
unfolding lookup insert
lookup_insert_same x [] = rw (order_equal x.key x.key refl)
lookup_insert_same x (r ∷ rs) = go (lookup_insert_same x rs) (tri r.key x.key)
  where
    go : lookup x.key (insert x rs) ≡ Some x.value → Tri r.key x.key → lookup x.key (insert x (r ∷ rs)) ≡ Some x.value
    go ih (below h e) = rw (e, e) ih
    go ih (same h e) = rw (e, order_equal x.key x.key refl)
    go ih (above h e) = rw (e, order_equal x.key x.key refl)

-- every other key is as it was
pub lookup_insert_other : (j : ℕ) (x : Row) (rs : List Row) → (x.key ≡ j → ⊥) → lookup j (insert x rs) ≡ lookup j rs
unfolding lookup insert
lookup_insert_other j x [] ne = go (tri x.key j)
  where
    go : Tri x.key j → lookup j (x ∷ []) ≡ None
    go (below h e) = rw e
    go (same h e) = absurd (ne h)
    go (above h e) = rw e
lookup_insert_other j x (r ∷ rs) ne = go (lookup_insert_other j x rs ne) (tri r.key x.key) (tri x.key j)
  where
    go : lookup j (insert x rs) ≡ lookup j rs → Tri r.key x.key → Tri x.key j → lookup j (insert x (r ∷ rs)) ≡ lookup j (r ∷ rs)
    go ih (below h e) t = rw (e, ih)
    go ih (same h e) (below h2 e2) = rw (e, e2, order_less r.key j (omega arith))
    go ih (same h e) (same h2 e2) = absurd (ne h2)
    go ih (same h e) (above h2 e2) = rw (e, e2, order_greater r.key j (omega arith))
    go ih (above h e) (below h2 e2) = rw (e, e2)
    go ih (above h e) (same h2 e2) = absurd (ne h2)
    go ih (above h e) (above h2 e2) = rw (e, e2, order_greater r.key j (omega arith))

rising_less : (lo hi : ℕ) (rs : List Row) → lo ≤ hi → Rising hi rs → Rising lo rs
rising_less lo hi [] h s = tt
rising_less lo hi (r ∷ rs) h s = (omega arith, s.1)

-- the order is kept
pub rising_insert : (lo : ℕ) (x : Row) (rs : List Row) → lo ≤ x.key → Rising lo rs → Rising lo (insert x rs)
unfolding insert
rising_insert lo x [] h s = (h, tt)
rising_insert lo x (r ∷ rs) h s = go (rising_insert (suc r.key) x rs) (tri r.key x.key)
  where
    go : (suc r.key ≤ x.key → Rising (suc r.key) rs → Rising (suc r.key) (insert x rs)) → Tri r.key x.key → Rising lo (insert x (r ∷ rs))
    go ih (below l e) = rw e (s.0, ih l s.1)
    go ih (same l e) = rw e (h, rising_less _ (suc r.key) rs (omega arith) s.1)
    go ih (above l e) = rw e (h, (l, s.1))

-- there is one row more exactly when the key is new
pub length_insert : (x : Row) (rs : List Row) → length (insert x rs) ≡ length rs + bit (not (is_some (lookup x.key rs)))
unfolding insert lookup
length_insert x [] = refl
length_insert x (r ∷ rs) = go (length_insert x rs) (tri r.key x.key)
  where
    go : length (insert x rs) ≡ length rs + bit (not (is_some (lookup x.key rs))) → Tri r.key x.key
        → length (insert x (r ∷ rs)) ≡ suc (length rs) + bit (not (is_some (lookup x.key (r ∷ rs))))
    go ih (below h e) = rw e (omega arith)
    go ih (same h e) = rw e (omega arith)
    go ih (above h e) = rw e (omega arith)

lookup_below : (lo k : ℕ) (rs : List Row) → k < lo → Rising lo rs → lookup k rs ≡ None
unfolding lookup
lookup_below lo k [] h s = refl
lookup_below lo k (r ∷ rs) h s = rw (order_greater r.key k (omega arith))

some_none : {v : ℕ} → Some v ≡ None → ⊥
some_none e = cc

some_inj : {v u : ℕ} → Some v ≡ Some u → v ≡ u
some_inj e = cc

lookup_head : (r : Row) (rs : List Row) → lookup r.key (r ∷ rs) ≡ Some r.value
unfolding lookup
lookup_head r rs = rw (order_equal r.key r.key refl)

pub row_path : (a b : Row) → a.key ≡ b.key → a.value ≡ b.value → a ≡ b
row_path a b p q = λ i. record { key = p i; value = q i }

-- the answers of the tails are the same too
lookup_tails : (a b : Row) (us vs : List Row) → a.key ≡ b.key → Rising (suc a.key) us → Rising (suc b.key) vs
    → ((k : ℕ) → lookup k (a ∷ us) ≡ lookup k (b ∷ vs)) → (k : ℕ) → lookup k us ≡ lookup k vs
unfolding lookup
lookup_tails a b us vs e sa sb h k = go (tri a.key k)
  where
    go : Tri a.key k → lookup k us ≡ lookup k vs
    go (below l o) = rw (o, order_less b.key k (omega arith)) at (h k)
    go (same l o) = lookup_below (suc a.key) k us (omega arith) sa ∙ sym (lookup_below (suc b.key) k vs (omega arith) sb)
    go (above l o) = lookup_below (suc a.key) k us (omega arith) sa ∙ sym (lookup_below (suc b.key) k vs (omega arith) sb)

-- two sorted lists with the same answers are the same list
pub same_rows : (lo hi : ℕ) (us vs : List Row) → Rising lo us → Rising hi vs → ((k : ℕ) → lookup k us ≡ lookup k vs) → us ≡ vs
unfolding lookup
same_rows lo hi [] [] sa sb h = refl
same_rows lo hi [] (b ∷ vs) sa sb h = absurd (some_none (sym (h b.key ∙ lookup_head b vs)))
same_rows lo hi (a ∷ us) [] sa sb h = absurd (some_none (sym (lookup_head a us) ∙ h a.key))
same_rows lo hi (a ∷ us) (b ∷ vs) sa sb h = go (same_rows (suc a.key) (suc b.key) us vs sa.1 sb.1) (tri a.key b.key)
  where
    go : (((k : ℕ) → lookup k us ≡ lookup k vs) → us ≡ vs) → Tri a.key b.key → a ∷ us ≡ b ∷ vs
    go ih (below l o) = absurd (some_none (sym (lookup_head a us) ∙ h a.key ∙ lookup_below b.key a.key (b ∷ vs) l (omega arith, sb.1)))
    go ih (same l o) =
        let t : us ≡ vs = ih (lookup_tails a b us vs l sa.1 sb.1 h) in
        let v : a.value ≡ b.value = some_inj (sym (lookup_head a us) ∙ h a.key ∙ ap (λ (k : ℕ). lookup k (b ∷ vs)) l ∙ lookup_head b vs) in
        let e : a ≡ b = row_path a b l v in
        cc
    go ih (above l o) = absurd (some_none (sym (lookup_head b vs) ∙ sym (h b.key) ∙ lookup_below a.key b.key (a ∷ us) l (omega arith, sa.1)))
