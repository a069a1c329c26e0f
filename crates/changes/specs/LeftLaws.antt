-- The rows of 40 bytes that are left, and which of them changed. Assumes nothing.
use Rattle.std.specs.Prelude.{◌≡◌, Bool, List, [], ◌∷◌, ◌++◌, ℕ, suc, ◌*◌, ◌/◌, ◌≤◌, ◌<◌, length, take, drop}
use Rattle.std.proofs.Common.{sym, ap, ◌∙◌, arith, take-append-drop, length-append, length-take-le, drop_at}
use Rattle.std.proofs.Math.Nat.{mul-div_left}
use Rattle.words.specs.Choice.{pick}
use Rattle.tables.specs.Rows.{Row, row_in, rows}
use Rattle.tables.specs.LayoutLaws.{row_of_append, rows_front}
use Rattle.changes.specs.ChangeList.{changed}
use Rattle.changes.specs.Changed.{sameb}

-- the whole rows of bytes
abbrev pub whole_rows : List ℕ → List Row
whole_rows r = rows 40 (length r / 40) r

-- the first n rows are those of the bytes that they fill
pub rows_taken : (n : ℕ) (t : List ℕ) → n * 40 ≤ length t → whole_rows (take (n * 40) t) ≡ rows 40 n t
rows_taken n t h =
    let l : length (take (n * 40) t) ≡ n * 40 = length-take-le (n * 40) t h in
    let d : length (take (n * 40) t) / 40 ≡ n = ap (λ (m : ℕ). m / 40) l ∙ mul-div_left n (omega arith) in
    ap (λ (m : ℕ). rows 40 m (take (n * 40) t)) d
    ∙ sym (rows_front 40 n (take (n * 40) t) (drop (n * 40) t) (omega arith) (omega arith)) ∙ ap (rows 40 n) (take-append-drop (n * 40) t)

-- less than a row is left
pub rows_none : (r : List ℕ) → length r < 40 → whole_rows r ≡ []
unfolding rows
rows_none r h = let q : length r / 40 ≡ 0 = omega arith in rw q

-- of the bytes r that are left, x are the first row
module _ (r x t : List ℕ) (e : r ≡ x ++ t) (l : length x ≡ 40) where
  pub next_rows : whole_rows r ≡ row_in 40 x ∷ whole_rows t
  unfolding rows
  next_rows =
      let n : length r / 40 ≡ suc (length t / 40) = omega (arith, ap length e, length-append x t) in
      let h : row_in 40 r ≡ row_in 40 x = ap (row_in 40) e ∙ row_of_append 40 x t (omega arith) (omega arith) in
      let d : drop 40 r ≡ t = ap (drop 40) e ∙ drop_at x t 40 l in
      rw (n, h, d)

  -- a row with its starting value is left out, another is listed
  pub left_by_lem : (ss ls : List Row) (b : Bool) → b ≡ sameb ss ls (row_in 40 x)
      → changed ss ls (whole_rows r) ≡ pick b (changed ss ls (whole_rows t)) (row_in 40 x ∷ changed ss ls (whole_rows t))
  unfolding changed
  left_by_lem ss ls b q = ap (changed ss ls) next_rows ∙ rw (← q)

-- nothing is left
pub left_none : (ss ls : List Row) (r : List ℕ) → length r < 40 → changed ss ls (whole_rows r) ≡ []
unfolding changed
left_none ss ls r h = ap (changed ss ls) (rows_none r h)
