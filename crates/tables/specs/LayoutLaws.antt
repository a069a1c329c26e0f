-- Rows in bytes: where each lies, and rows put beside each other. Assumes nothing.
use Rattle.std.specs.Prelude.{◌≡◌, refl, List, ◌∷◌, ◌++◌, ℕ, zero, suc, ◌+◌, ◌*◌, ◌-◌, ◌≤◌, ◌<◌, length, take, drop, get_or}
use Rattle.std.proofs.Common.{ap, ◌∙◌, arith, suc-mul, zero-mul, mul-le-mul_right, suc-add, zero-add, length-drop, drop-drop, drop_at}
use Rattle.std.proofs.lemmas.List.{take-append-le, drop-append-le}
use Rattle.words.specs.Bytes.{num}
use Rattle.tables.specs.Rows.{Row, row_in, rows}
use Rattle.tables.specs.Walks.{key_of_row}

pub rows_length : (w n : ℕ) (t : List ℕ) → length (rows w n t) ≡ n
unfolding rows
rows_length w zero t = refl
rows_length w (suc n) t = ap suc (rows_length w n (drop w t))

pub rows_at : (w n i : ℕ) (t : List ℕ) (d : Row) → i < n → get_or (rows w n t) i d ≡ row_in w (drop (i * w) t)
unfolding rows
rows_at w zero i t d h = absurd (omega arith)
rows_at w (suc n) zero t d h = rw zero-mul
rows_at w (suc n) (suc i) t d h =
    let e : w + i * w ≡ suc i * w = omega (arith, suc-mul i w) in
    rows_at w n i (drop w t) d (omega arith) ∙ ap (row_in w) (drop-drop (i * w) w t ∙ ap (λ (m : ℕ). drop m t) e)

-- the key of row i
pub key_at_lem : (w n i : ℕ) (t : List ℕ) → i < n → key_of_row (rows w n t) i ≡ num (take 32 (drop (i * w) t))
unfolding key_of_row row_in
key_at_lem w n i t h = ap (λ (r : Row). r.key) (rows_at w n i t (record { key = 0; value = 0 }) h)

-- a row below n ends within n rows
pub row_ends : (w n i : ℕ) → i < n → i * w + w ≤ n * w
row_ends w n i h = omega (arith, mul-le-mul_right w h, suc-mul i w)

-- a row that lies in the first part is read from it
pub row_of_append : (w : ℕ) (a b : List ℕ) → 32 ≤ w → w ≤ length a → row_in w (a ++ b) ≡ row_in w a
unfolding row_in
row_of_append w a b h k =
    let key : 32 ≤ length a = omega arith in
    let value : w - 32 ≤ length (drop 32 a) = omega (arith, length-drop 32 a) in
    rw (take-append-le 32 a b key, drop-append-le 32 a b key, take-append-le (w - 32) (drop 32 a) b value)

-- rows lie in the bytes that they fill
pub rows_front : (w n : ℕ) (a b : List ℕ) → 32 ≤ w → n * w ≤ length a → rows w n (a ++ b) ≡ rows w n a
unfolding rows
rows_front w zero a b h e = refl
rows_front w (suc n) a b h e =
    let k : w ≤ length a = omega (arith, suc-mul n w) in
    let l : n * w ≤ length (drop w a) = omega (arith, suc-mul n w, length-drop w a) in
    let ih : rows w n (drop w a ++ b) ≡ rows w n (drop w a) = rows_front w n (drop w a) b h l in
    rw (row_of_append w a b h k, drop-append-le w a b k, ih)

pub rows_split : (w i m : ℕ) (t : List ℕ) → rows w (i + m) t ≡ rows w i t ++ rows w m (drop (i * w) t)
unfolding rows
rows_split w zero m t = rw (zero-add, zero-mul)
rows_split w (suc i) m t =
    let e : w + i * w ≡ suc i * w = omega (arith, suc-mul i w) in
    let ih : rows w (i + m) (drop w t) ≡ rows w i (drop w t) ++ rows w m (drop (i * w) (drop w t)) = rows_split w i m (drop w t) in
    rw (suc-add, ih, drop-drop (i * w) w t, e)

-- a row put in between rows
pub rows_spliced : (w i m : ℕ) (a row rest : List ℕ) → 32 ≤ w → length a ≡ i * w → length row ≡ w
    → rows w (i + suc m) (a ++ (row ++ rest)) ≡ rows w i a ++ row_in w row ∷ rows w m rest
unfolding rows
rows_spliced w i m a row rest h p q =
    let k : w ≤ length row = omega arith in
    rows_split w i (suc m) (a ++ (row ++ rest))
    ∙ rw (rows_front w i a (row ++ rest) h (omega arith), drop_at a (row ++ rest) (i * w) p, row_of_append w row rest h k, drop_at row rest w q)
