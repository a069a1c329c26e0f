-- A search by halves over sorted rows. Assumes nothing.
use Rattle.std.specs.Prelude.{◌≡◌, refl, List, ◌⊎◌, ℕ, ◌+◌, ◌*◌, ◌≤◌, ◌<◌, length, take, drop, Some, None, Result, Ok, Err, is_some}
use Rattle.std.proofs.Common.{inl, inr, arith, eq-or-lt_of_le}
use Rattle.std.proofs.Math.Seq.{drop-drop}
use Rattle.words.specs.Bytes.{num}
use Rattle.tables.specs.Rows.{Row, row_in, rows, Rising, find, lookup}
use Rattle.tables.specs.Walks.{key_of_row, Bracket}
use Rattle.tables.specs.SortedLaws.{rising_at, find_at, find_missing, insert_at, insert_missing}
use Rattle.tables.specs.LayoutLaws.{rows_at, rows_length}
use Rattle.std.specs.Result.{is_ok, result_ok}

pub bracket_start : (rs : List Row) (k n : ℕ) → length rs ≡ n → Bracket rs k n 0 n
bracket_start rs k n e =
    record { size = e; lo_le = omega arith; hi_le = omega arith; under = λ p h. absurd (omega arith); over = λ p h l. absurd (omega arith) }

module _ {rs : List Row} {k n lo hi : ℕ} (s : Rising 0 rs) (b : Bracket rs k n lo hi) (m : ℕ) (l : lo ≤ m) (h : m < hi) where
  pub bracket_up : key_of_row rs m < k → Bracket rs k n (m + 1) hi
  bracket_up q = record {
    size = b.size;
    lo_le = omega arith;
    hi_le = b.hi_le;
    under = λ p g. before p (eq-or-lt_of_le (omega arith));
    over = b.over;
  }
    where
      before : (p : ℕ) → (p ≡ m) ⊎ (p < m) → key_of_row rs p < k
      before p (inl e) = rw e q
      before p (inr g) = omega (arith, rising_at 0 rs p m s g (omega arith))

  pub bracket_down : k < key_of_row rs m → Bracket rs k n lo m
  bracket_down q = record {
    size = b.size;
    lo_le = l;
    hi_le = omega arith;
    under = b.under;
    over = λ p g j. after p j (eq-or-lt_of_le g);
  }
    where
      after : (p : ℕ) → p < n → (m ≡ p) ⊎ (m < p) → k < key_of_row rs p
      after p j (inl e) = rw (← e) q
      after p j (inr g) = omega (arith, rising_at 0 rs m p s g (omega arith))

  pub bracket_hit : key_of_row rs m ≡ k → find k rs ≡ Ok m
  bracket_hit q = find_at k rs m (omega arith) (λ p g. rw (← q) (rising_at 0 rs p m s g (omega arith))) q

pub bracket_end : {rs : List Row} {k n lo hi : ℕ} → Bracket rs k n lo hi → hi ≤ lo → find k rs ≡ Err lo
bracket_end {rs} {k} {n} {lo} {hi} b h = find_missing k rs lo (omega arith) b.under (λ p g j. b.over p (omega arith) (omega arith))

-- what a lookup in rows of 40 bytes answers
module _ (k n i : ℕ) (t : List ℕ) where
  -- the row lies within the table
  pub found_row : find k (rows 40 n t) ≡ Ok i → i < n
  found_row e = omega (arith, (insert_at (record { key = k; value = 0 }) (rows 40 n t) i (row_in 40 t) e).0, rows_length 40 n t)

  -- the value that was read at the row
  pub got_value : (v : ℕ) → find k (rows 40 n t) ≡ Ok i → v ≡ num (take 8 (drop (i * 40 + 32) t)) → Some v ≡ lookup k (rows 40 n t)
  unfolding row_in
  got_value v e h =
      let r = rows_at 40 n i t (row_in 40 t) (found_row e) in
      let l = (insert_at (record { key = k; value = 0 }) (rows 40 n t) i (row_in 40 t) e).1 in
      rw (l, r, drop-drop 32 (i * 40) t, ← h)

-- a key stands in rows exactly if it has a value there
pub found_is_some : (k : ℕ) (rs : List Row) → is_ok (find k rs) ≡ is_some (lookup k rs)
found_is_some k rs = go (find k rs) refl
  where
    x : Row
    x = record { key = k; value = 0 }

    go : (f : Result ℕ ℕ) → find k rs ≡ f → is_ok f ≡ is_some (lookup k rs)
    go (Ok i) e = rw (insert_at x rs i x e).1
    go (Err i) e = rw (insert_missing x rs i e).1

-- what is found, by what is answered
pub found_at : (f : Result ℕ ℕ) (i : ℕ) → result_ok f ≡ Some i → f ≡ Ok i
found_at (Ok j) i e = cc
found_at (Err j) i e = absurd cc

pub found_nowhere : (k : ℕ) (rs : List Row) → result_ok (find k rs) ≡ None → lookup k rs ≡ None
found_nowhere k rs e = go (find k rs) refl e
  where
    go : (f : Result ℕ ℕ) → find k rs ≡ f → result_ok f ≡ None → lookup k rs ≡ None
    go (Ok i) q n = absurd cc
    go (Err i) q n = (insert_missing (record { key = k; value = 0 }) rs i q).1
