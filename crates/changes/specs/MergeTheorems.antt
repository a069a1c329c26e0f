-- The new store rises, and each key has its stored value, else the store's. Assumes nothing.
use Rattle.std.specs.Prelude.{◌≡◌, refl, List, [], ◌∷◌, ℕ, suc, ◌<◌, Option, Some, None}
use Rattle.std.proofs.Common.{sym, ap, ◌∙◌, arith}
use Rattle.tables.specs.Rows.{Row, Rising, insert, lookup}
use Rattle.tables.specs.OrderLaws.{order_greater, Tri, tri, below, same, above}
use Rattle.tables.specs.RowsTheorems.{rising_insert, lookup_insert_same, lookup_insert_other}
use Rattle.changes.specs.Merge.{merged}

pub merged_rises : (cs ss : List Row) → Rising 0 ss → Rising 0 (merged cs ss)
unfolding merged
merged_rises [] ss h = h
merged_rises (c ∷ cs) ss h = merged_rises cs (insert c ss) (rising_insert 0 c ss (omega arith) h)

-- the first value, else the second
unfoldable pub or_then : Option ℕ → Option ℕ → Option ℕ
or_then (Some v) o = Some v
or_then None o = o

absent : (lo k : ℕ) (cs : List Row) → k < lo → Rising lo cs → lookup k cs ≡ None
unfolding lookup
absent lo k [] h s = refl
absent lo k (c ∷ cs) h s = rw (order_greater c.key k (omega arith))

pub merged_lookup : (lo k : ℕ) (cs ss : List Row) → Rising lo cs → lookup k (merged cs ss) ≡ or_then (lookup k cs) (lookup k ss)
unfolding merged lookup or_then
merged_lookup lo k [] ss s = refl
merged_lookup lo k (c ∷ cs) ss s = go (merged_lookup (suc c.key) k cs (insert c ss) s.1) (tri c.key k)
  where
    go : lookup k (merged cs (insert c ss)) ≡ or_then (lookup k cs) (lookup k (insert c ss)) → Tri c.key k
        → lookup k (merged cs (insert c ss)) ≡ or_then (lookup k (c ∷ cs)) (lookup k ss)
    go ih (below h e) = rw e (ih ∙ ap (or_then (lookup k cs)) (lookup_insert_other k c ss (λ q. omega arith)))
    go ih (same h e) =
        let a : lookup k cs ≡ None = absent (suc c.key) k cs (omega arith) s.1 in
        rw e (ih ∙ rw a (ap (λ (j : ℕ). lookup j (insert c ss)) (sym h) ∙ lookup_insert_same c ss))
    go ih (above h e) =
        let a : lookup k cs ≡ None = absent (suc c.key) k cs (omega arith) s.1 in
        rw e (ih ∙ rw a (lookup_insert_other k c ss (λ q. omega arith)))
