-- Storing keeps to it that at most 8 keys that grew did not pay as fresh. Assumes nothing.
use Rattle.std.specs.Prelude.{◌≡◌, Bool, not, List, ℕ, ◌≤◌, ◌<◌, length, leb, eqb, Option, Some, None}
use Rattle.std.proofs.Math.Path.{refl}
use Rattle.std.proofs.Common.{◌∙◌, arith}
use Rattle.std.proofs.Math.Bool.{true, false}
use borrow.Author.Tests.{eq-eqb, eqb-true, leb-false, not-true}
use Rattle.words.specs.Choice.{both, either, bit}
use Rattle.tables.specs.Rows.{Row, insert, lookup}
use Rattle.keys.specs.Known.{KeyEnv, Keys}
use Rattle.keys.specs.Values.{row, has, first_of, look_in, look}
use Rattle.keys.specs.Steps.{pays_fresh, fresh_at}
use Rattle.promises.specs.Grown.{start_in, tally, grew}
use Rattle.promises.specs.CountingLaws.{tally_mono, tally_length, tally_insert, tally_again, has_same, has_more, length_more}
use Rattle.promises.specs.FetchedLaws.{Honest, seen_start}

-- a key that grew and has not paid as fresh
unfoldable pub unpaid : KeyEnv → List Row → Row → Bool
unpaid e ps r = both (grew (start_in e) r) (not (has r.key ps))

-- ---- tests taken apart

both_true : (a b : Bool) → both a b ≡ true → (a ≡ true) × (b ≡ true)
both_true true b h = (refl, h)
both_true false b h = absurd (let z : ◌≡◌ {A = ℕ} 0 1 = cc in omega arith)

either_false : (a b : Bool) → either a b ≡ false → b ≡ false
either_false true b h = absurd (let z : ◌≡◌ {A = ℕ} 0 1 = cc in omega arith)
either_false false b h = h

module _ (e : KeyEnv) (ps : List Row) (k v : ℕ) where
  unpaid_is : unpaid e ps (row k v) ≡ true → (start_in e k ≡ 0) × (eqb v 0 ≡ false) × (has k ps ≡ false)
  unfolding unpaid grew
  unpaid_is h =
      let (a, b) = both_true (both (eqb (start_in e k) 0) (not (eqb v 0))) (not (has k ps)) h in
      let (c, d) = both_true (eqb (start_in e k) 0) (not (eqb v 0)) a in
      (eqb-true (start_in e k) 0 c, not-true (eqb v 0) d, not-true (has k ps) b)

  is_unpaid : start_in e k ≡ 0 → eqb v 0 ≡ false → has k ps ≡ false → unpaid e ps (row k v) ≡ true
  unfolding unpaid grew
  is_unpaid a b c = rw (eq-eqb (start_in e k) 0 a, b, c)

  paid_is : has k ps ≡ true → unpaid e ps (row k v) ≡ false
  unfolding unpaid grew
  paid_is h = rw h (go (grew (start_in e) (row k v)))
    where
      go : (a : Bool) → both a false ≡ false
      go true = refl
      go false = refl

-- ---- what is stored without paying as fresh

module _ (e : KeyEnv) (k v : ℕ) (s : Keys) where
  -- a value put over zero that does not pay as fresh: fewer than 8 keys are dirty
  few : fresh_at e s k v ≡ false → eqb v 0 ≡ false → (look e s k).value ≡ 0 → has k s.paid ≡ false → length s.changes < 8
  unfolding fresh_at pays_fresh
  few fr a b c =
      let g : either (has k s.may_write) (leb 8 (length s.changes)) ≡ false = rw (a, eq-eqb (look e s k).value 0 b, c) at fr in
      leb-false 8 (length s.changes) (either_false (has k s.may_write) (leb 8 (length s.changes)) g)

  few_tally : (f : Row → Bool) → length s.changes < 8 → tally f (insert (row k v) s.changes) ≤ 8
  few_tally f h = omega (arith, tally_length f (insert (row k v) s.changes), length_more (row k v) s.changes)

  seen_stored : (u : ℕ) → lookup k s.changes ≡ Some u → (look e s k).value ≡ u
  unfolding look look_in first_of
  seen_stored u q = rw q

  -- such a key that stands as grown and unpaid stood so before, or fewer than 8 were dirty
  pub not_fresh : fresh_at e s k v ≡ false → Honest e s.fetched → tally (unpaid e s.paid) s.changes ≤ 8
      → tally (unpaid e s.paid) (insert (row k v) s.changes) ≤ 8
  not_fresh fr h f = go (unpaid e s.paid (row k v)) refl
    where
      old : (u : ℕ) → lookup k s.changes ≡ Some u → unpaid e s.paid (row k v) ≡ true → (b : Bool) → eqb u 0 ≡ b →
          tally (unpaid e s.paid) (insert (row k v) s.changes) ≤ 8
      old u q t true z =
          let (a, n, p) = unpaid_is e s.paid k v t in
          few_tally (unpaid e s.paid) (few fr n (seen_stored u q ∙ eqb-true u 0 z) p)
      old u q t false z =
          let (a, n, p) = unpaid_is e s.paid k v t in
          let w : unpaid e s.paid (row k u) ≡ true = is_unpaid e s.paid k u a z p in
          omega (arith, tally_again (unpaid e s.paid) (row k v) s.changes u q (rw (t, w) (omega arith)))

      at : (o : Option ℕ) → lookup k s.changes ≡ o → unpaid e s.paid (row k v) ≡ true → tally (unpaid e s.paid) (insert (row k v) s.changes) ≤ 8
      at None q t =
          let (a, n, p) = unpaid_is e s.paid k v t in
          few_tally (unpaid e s.paid) (few fr n (seen_start e s k h q ∙ a) p)
      at (Some u) q t = old u q t (eqb u 0) refl

      go : (b : Bool) → unpaid e s.paid (row k v) ≡ b → tally (unpaid e s.paid) (insert (row k v) s.changes) ≤ 8
      go true t = at (lookup k s.changes) refl t
      go false t = omega (arith, rw t at (tally_insert (unpaid e s.paid) (row k v) s.changes))

  -- a key that pays as fresh is not among the unpaid, and no other key becomes so
  pub pays_fresh_lem : tally (unpaid e s.paid) s.changes ≤ 8 → tally (unpaid e (insert (row k 0) s.paid)) (insert (row k v) s.changes) ≤ 8
  pays_fresh_lem f =
      let ps : List Row = insert (row k 0) s.paid in
      let n : unpaid e ps (row k v) ≡ false = paid_is e ps k v (has_same (row k 0) s.paid) in
      omega (arith, rw n at (tally_insert (unpaid e ps) (row k v) s.changes), tally_mono (unpaid e ps) (unpaid e s.paid) s.changes less)
    where
      less : (r : Row) → bit (unpaid e (insert (row k 0) s.paid) r) ≤ bit (unpaid e s.paid r)
      less r = by (unpaid e (insert (row k 0) s.paid) r) refl (has r.key s.paid) refl
        where
          by : (b : Bool) → unpaid e (insert (row k 0) s.paid) r ≡ b → (c : Bool) → has r.key s.paid ≡ c →
              bit (unpaid e (insert (row k 0) s.paid) r) ≤ bit (unpaid e s.paid r)
          by false q c p = rw q (omega arith)
          by true q true p =
              let g : unpaid e (insert (row k 0) s.paid) r ≡ false = paid_is e (insert (row k 0) s.paid) r.key r.value (has_more r.key (row k 0) s.paid p) in
              rw g (omega arith)
          by true q false p =
              let (a, n, m) = unpaid_is e (insert (row k 0) s.paid) r.key r.value q in
              let w : unpaid e s.paid r ≡ true = is_unpaid e s.paid r.key r.value a n p in
              rw (q, w) (omega arith)
