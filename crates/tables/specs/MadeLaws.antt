-- Rows made of a key, and of a key and a value. Assumes nothing.
use Rattle.std.specs.Prelude.{◌≡◌, refl, List, ◌++◌, ℕ, ◌<◌, length, take, drop, Option}
use Rattle.std.proofs.Common.{ap, ◌∙◌, subst, append_assoc, arith, take_all, take_at, drop_at, length-take-le}
use Rattle.std.proofs.Math.Seq.{paste}
use Rattle.std.proofs.lemmas.List.Edits.{length-paste}
use Rattle.words.specs.Bytes.{num, num_from, be_bytes}
use Rattle.words.specs.BytesLaws.{length_be_bytes}
use Rattle.words.proofs.BytesTheorems.{read_back_all}
use Rattle.tables.specs.Rows.{Row, row_in}
use Rattle.tables.specs.Table.{Inserted}
use Rattle.tables.specs.RowsTheorems.{row_path}

-- a key alone is a row of 32 bytes
pub set_row : (k : List ℕ) → length k ≡ 32 → row_in 32 k ≡ record { key = num k; value = 0 }
unfolding row_in num num_from
set_row k e = row_path _ _ (ap num (take_all 32 k (omega arith))) refl

-- a key and eight bytes are a row of 40
map_row : (k e rest : List ℕ) → length k ≡ 32 → length e ≡ 8 → row_in 40 (k ++ (e ++ rest)) ≡ record { key = num k; value = num e }
unfolding row_in
map_row k e rest p q =
    row_path _ _ (ap num (take_at k (e ++ rest) 32 p)) (ap num (ap (take 8) (drop_at k (e ++ rest) 32 p) ∙ take_at e rest 8 q))

-- a key copied into 40 bytes, and a value written after it
pub map_made : (z k a b : List ℕ) (v : ℕ) → length z ≡ 40 → length k ≡ 32 → v < 18446744073709551616
    → a ≡ paste z 0 k (length k) → b ≡ paste a 32 (be_bytes 8 v) 8
    → row_in 40 b ≡ record { key = num k; value = v }
map_made z k a b v lz lk lv pa pb =
    let e : List ℕ = be_bytes 8 v in
    let le : length e ≡ 8 = length_be_bytes 8 v in
    let pk : a ≡ paste z 0 k 32 = pa ∙ ap (paste z 0 k) lk in
    let la : length a ≡ 40 = ap length pk ∙ length-paste z 0 k 32 (omega arith) (omega arith) ∙ lz in
    let ta : take 32 a ≡ k = ap (take 32) pk ∙ take_at (take 32 k) (drop 32 z) 32 (length-take-le 32 k (omega arith)) ∙ take_all 32 k (omega arith) in
    let te : take 8 e ≡ e = take_all 8 e (omega arith) in
    let whole : b ≡ k ++ (e ++ drop 40 a) = pb ∙ (λ i. (ta i ++ te i) ++ drop 40 a) ∙ append_assoc k e (drop 40 a) in
    ap (row_in 40) whole ∙ map_row k e (drop 40 a) lk le ∙ ap (λ (x : ℕ). record { key = num k; value = x }) (read_back_all 8 v lv)

-- what was put in, by its row
pub as_row : (w n : ℕ) (x : Row) (t u row : List ℕ) (r : Option ℕ) → length row ≡ w → row_in w row ≡ x
    → Inserted (length row) n (row_in (length row) row) t u r → Inserted w n x t u r
as_row w n x t u row r e p i = subst (λ (y : Row). Inserted w n y t u r) p (subst (λ (m : ℕ). Inserted m n (row_in m row) t u r) e i)
