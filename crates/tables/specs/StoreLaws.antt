-- What a row pasted in among sorted rows does to the rows. Assumes nothing.
use Rattle.std.specs.Prelude.{◌≡◌, List, ◌∷◌, ◌++◌, take, Some, None, Ok, Err}
use Rattle.std.proofs.Math.Path.{refl, sym, ap}
use Rattle.std.proofs.Common.{◌∙◌, append_assoc, add-one, suc-mul, add-mul, length-drop, length-append, take-append-drop, drop-drop, take-take, take_all, drop_at, take_at, length-take-le}
use Prim.Native.Nat.{ℕ, suc, ◌+◌, ◌*◌, ◌-◌, ◌≤◌, ◌<◌}
use native.Mathlib.Omega.{arith}
use Rattle.std.proofs.Math.ListN.{length, drop}
use Rattle.std.proofs.Math.Seq.{paste}
use Rattle.std.proofs.lemmas.List.{take-append-le}
use Rattle.std.proofs.lemmas.List.Edits.{drop-paste, length-paste}
use borrow.Author.Tests.{le-leb, lt-leb}
use Rattle.tables.specs.Rows.{Row, row_in, rows, find, insert}
use Rattle.tables.specs.Table.{Table, Inserted, stored_of}
use Rattle.tables.specs.SortedLaws.{insert_at, insert_missing}
use Rattle.tables.specs.RowsTheorems.{length_insert}
use Rattle.tables.specs.LayoutLaws.{rows_length, rows_split, rows_front, rows_spliced, row_ends}

-- bytes that agree from a on agree from b on
pub drop_beyond : (a b : ℕ) (u t : List ℕ) → a ≤ b → drop a u ≡ drop a t → drop b u ≡ drop b t
drop_beyond a b u t h e =
    let q : a + (b - a) ≡ b = omega arith in
    sym (ap (λ (k : ℕ). drop k u) q) ∙ sym (drop-drop (b - a) a u) ∙ ap (drop (b - a)) e ∙ drop-drop (b - a) a t ∙ ap (λ (k : ℕ). drop k t) q

-- the rows before i, x, and the rows from j on
rows_around : (w n i j : ℕ) (t : List ℕ) (x : Row) → i ≤ n → j ≤ n
    → take i (rows w n t) ++ x ∷ drop j (rows w n t) ≡ rows w i t ++ x ∷ rows w (n - j) (drop (j * w) t)
rows_around w n i j t x h k =
    let a : n ≡ i + (n - i) = omega arith in
    let b : n ≡ j + (n - j) = omega arith in
    let front : take i (rows w n t) ≡ rows w i t =
    ap (λ (m : ℕ). take i (rows w m t)) a ∙ ap (take i) (rows_split w i (n - i) t) ∙ take_at (rows w i t) _ i (rows_length w i t) in
    let back : drop j (rows w n t) ≡ rows w (n - j) (drop (j * w) t) =
    ap (λ (m : ℕ). drop j (rows w m t)) b ∙ ap (drop j) (rows_split w j (n - j) t) ∙ drop_at (rows w j t) _ j (rows_length w j t) in
    λ k. front k ++ x ∷ back k

-- rows are those of the bytes that they fill
rows_cut : (w n k : ℕ) (t : List ℕ) → 32 ≤ w → n * w ≤ k → k ≤ length t → rows w n (take k t) ≡ rows w n t
rows_cut w n k t h l j =
    sym (rows_front w n (take k t) (drop k t) h (omega (arith, length-take-le k t j))) ∙ ap (rows w n) (take-append-drop k t)

-- t with a row pasted in at row i
row_pasted : (w i m : ℕ) (t row : List ℕ) → 32 ≤ w → length row ≡ w → i * w + w ≤ length t
    → rows w (i + suc m) (paste t (i * w) row w) ≡ rows w i t ++ row_in w row ∷ rows w m (drop (i * w + w) t)
row_pasted w i m t row h e l =
    let a : take w row ≡ row = take_all w row (omega arith) in
    let b : length (take (i * w) t) ≡ i * w = length-take-le (i * w) t (omega arith) in
    let c : rows w i (take (i * w) t) ≡ rows w i t = rows_cut w i (i * w) t h (omega arith) (omega arith) in
    ap (λ (r : List ℕ). rows w (i + suc m) (take (i * w) t ++ r ++ drop (i * w + w) t)) a
    ∙ ap (rows w (i + suc m)) (append_assoc (take (i * w) t) row (drop (i * w + w) t))
    ∙ rows_spliced w i m (take (i * w) t) row (drop (i * w + w) t) h b e
    ∙ ap (λ (r : List Row). r ++ row_in w row ∷ rows w m (drop (i * w + w) t)) c

-- before and behind a paste
take_paste_le : (b at k : ℕ) (t s : List ℕ) → b ≤ at → at ≤ length t → take b (paste t at s k) ≡ take b t
take_paste_le b at k t s h l =
    let e : length (take at t) ≡ at = length-take-le at t l in
    take-append-le b (take at t ++ take k s) (drop (at + k) t) (omega (arith, length-append (take at t) (take k s)))
    ∙ take-append-le b (take at t) (take k s) (omega arith)
    ∙ take-take b at t h

drop_paste_at : (at k : ℕ) (t s : List ℕ) → at ≤ length t → drop at (paste t at s k) ≡ take k s ++ drop (at + k) t
drop_paste_at at k t s l = ap (drop at) (append_assoc (take at t) (take k s) (drop (at + k) t)) ∙ drop_at (take at t) _ at (length-take-le at t l)

-- the rows below a paste, and those that it moved up
rows_below : (w i at k : ℕ) (t s : List ℕ) → 32 ≤ w → i * w ≤ at → at + k ≤ length t → k ≤ length s → rows w i (paste t at s k) ≡ rows w i t
rows_below w i at k t s h l j g =
    let e : length (paste t at s k) ≡ length t = length-paste t at s k j g in
    sym (rows_cut w i (i * w) (paste t at s k) h (omega arith) (omega arith)) ∙ ap (rows w i) (take_paste_le (i * w) at k t s l (omega arith))
    ∙ rows_cut w i (i * w) t h (omega arith) (omega arith)

rows_moved : (w m at k : ℕ) (t s : List ℕ) → 32 ≤ w → m * w ≡ k → at ≤ length t → k ≤ length s → rows w m (drop at (paste t at s k)) ≡ rows w m s
rows_moved w m at k t s h e l g =
    ap (rows w m) (drop_paste_at at k t s l) ∙ rows_front w m (take k s) (drop (at + k) t) h (omega (arith, length-take-le k s g))
    ∙ rows_cut w m k s h (omega arith) g

module _ (w n i : ℕ) (t row : List ℕ) (tb : Table w n t) (lw : length row ≡ w) where
  abbrev x : Row
  x = row_in w row

  abbrev rs : List Row
  rs = rows w n t

  -- a row put over the one that has its key
  pub put_at : find x.key rs ≡ Ok i → (u : List ℕ) → u ≡ paste t (i * w) row w → Inserted w n x t u (Some n)
  unfolding stored_of
  put_at h u p =
      let (l, v, e) = insert_at x rs i x h in
      let c : length rs ≡ n = rows_length w n t in
      let m : ℕ = n - suc i in
      let nm : n ≡ i + suc m = omega arith in
      let fit : i * w + w ≤ n * w = row_ends w n i (omega arith) in
      let size : length (insert x rs) ≡ n = length_insert x rs ∙ rw v (omega arith) in
      let r : rows w n u ≡ insert x rs =
      (λ k. rows w (nm k) (p k)) ∙ row_pasted w i m t row tb.wide lw (omega (arith, tb.fits))
      ∙ (λ k. rows w i t ++ x ∷ rows w m (drop (sym (suc-mul i w) k) t)) ∙ sym (rows_around w n i (suc i) t x (omega arith) (omega arith)) ∙ sym e in
      let d : drop (n * w) u ≡ drop (n * w) t =
      ap (drop (n * w)) p ∙ drop_beyond (i * w + w) (n * w) (paste t (i * w) row w) t fit
      (drop-paste t (i * w) row w (omega (arith, tb.fits)) (omega arith)) in
      record { answer = rw (size, le-leb (n * w) (length t) tb.fits); bytes = (r, d) }

  -- a row with a new key
  module _ (h : find x.key rs ≡ Err i) where
    place : i ≤ n
    place = omega (arith, (insert_missing x rs i h).0, rows_length w n t)

    size : length (insert x rs) ≡ n + 1
    size = length_insert x rs ∙ rw (insert_missing x rs i h).1 (omega (arith, rows_length w n t))

    next : (n + 1) * w ≡ n * w + w
    next = ap (λ (j : ℕ). j * w) (add-one n) ∙ suc-mul n w

    pub put_none : length t - n * w < w → Inserted w n x t t None
    unfolding stored_of
    put_none s = record { answer = rw (size, lt-leb ((n + 1) * w) (length t) (omega (arith, next, tb.fits))); bytes = refl }

    -- the rows from i on move up a row, and the new one goes before them
    module _ (s : n * w + w ≤ length t) (v u : List ℕ) (p : v ≡ paste t (i * w + w) (drop (i * w) t) (n * w - i * w)) (q : u ≡ paste v (i * w) row w) where
      whole : n * w ≡ i * w + (n - i) * w
      whole = let e : n ≡ i + (n - i) = omega (arith, place) in ap (λ (j : ℕ). j * w) e ∙ add-mul i (n - i) w

      left : length (drop (i * w) t) ≡ length t - i * w
      left = length-drop (i * w) t

      same_length : length v ≡ length t
      same_length = ap length p ∙ length-paste t (i * w + w) (drop (i * w) t) (n * w - i * w) (omega (arith, whole)) (omega (arith, whole, left))

      new_rows : rows w (n + 1) u ≡ insert x rs
      new_rows =
          let at : ℕ = i * w + w in
          let k : ℕ = n * w - i * w in
          let o : List ℕ = drop (i * w) t in
          let m : n + 1 ≡ i + suc (n - i) = omega (arith, place) in
          let a : rows w i v ≡ rows w i t =
          ap (rows w i) p ∙ rows_below w i at k t o tb.wide (omega arith) (omega (arith, whole)) (omega (arith, whole, left)) in
          let b : rows w (n - i) (drop at v) ≡ rows w (n - i) o =
          ap (λ (z : List ℕ). rows w (n - i) (drop at z)) p
          ∙ rows_moved w (n - i) at k t o tb.wide (omega (arith, whole)) (omega (arith, whole)) (omega (arith, whole, left)) in
          (λ j. rows w (m j) (q j)) ∙ row_pasted w i (n - i) v row tb.wide lw (omega (arith, whole, same_length))
          ∙ (λ j. a j ++ x ∷ b j) ∙ sym (rows_around w n i i t x place place) ∙ sym (insert_missing x rs i h).2

      new_rest : drop ((n + 1) * w) u ≡ drop ((n + 1) * w) t
      new_rest =
          let at : ℕ = i * w + w in
          let k : ℕ = n * w - i * w in
          let e : at + k ≡ (n + 1) * w = omega (arith, whole, next) in
          ap (drop ((n + 1) * w)) q
          ∙ drop_beyond at ((n + 1) * w) (paste v (i * w) row w) v (omega (arith, e))
          (drop-paste v (i * w) row w (omega (arith, whole, same_length)) (omega arith))
          ∙ ap (drop ((n + 1) * w)) p ∙ rw (← e) (drop-paste t at (drop (i * w) t) k (omega (arith, whole)) (omega (arith, whole, left)))

      pub put_new : Inserted w n x t u (Some (n + 1))
      unfolding stored_of
      put_new = record { answer = rw (size, le-leb ((n + 1) * w) (length t) (omega (arith, next))); bytes = (new_rows, new_rest) }
