-- Parts of bytes; a number's bytes read back as the number, and bytes written again as themselves. Assumes nothing.
use Rattle.std.specs.Prelude.{◌≡◌, refl, List, [], ◌∷◌, ◌++◌, ℕ, zero, suc, ◌+◌, ◌*◌, ◌/◌, ◌%◌, ◌^◌, ◌≤◌, ◌<◌, length, take, drop, get_or}
use Rattle.std.proofs.Common.{sym, ap, ◌∙◌, arith, mod-eq_of_lt, pow-suc, add-zero, take-suc, get_or-drop}
use Rattle.std.proofs.Math.Nat.{mod-one, one-le-pow, div-eq_of_lt, mul-add-div_right, mul-add-mod_self_right}
use Rattle.std.proofs.Math.Arith.{mod-mul}
use Rattle.words.specs.Bytes.{num, num_from, be_bytes, Bytes}

-- parts of bytes are bytes
pub bytes_take : (w : ℕ) (s : List ℕ) → Bytes s → Bytes (take w s)
bytes_take zero s b k = omega arith
bytes_take (suc w) [] b k = b k
bytes_take (suc w) (x ∷ s) b zero = b 0
bytes_take (suc w) (x ∷ s) b (suc k) = bytes_take w s (λ i. b (suc i)) k

pub bytes_drop : (i : ℕ) (s : List ℕ) → Bytes s → Bytes (drop i s)
bytes_drop i s b k = rw get_or-drop (b (i + k))

-- bytes after bytes
pub num_from_append : (a b : List ℕ) (x : ℕ) → num_from x (a ++ b) ≡ num_from (num_from x a) b
unfolding num_from
num_from_append [] b x = refl
num_from_append (y ∷ a) b x = num_from_append a b (x * 256 + y)

one_more : (acc : ℕ) (xs : List ℕ) (y : ℕ) → num_from acc (xs ++ (y ∷ [])) ≡ num_from acc xs * 256 + y
unfolding num_from
one_more acc xs y = num_from_append xs (y ∷ []) acc

-- the low bytes of a number, read back
pub read_back_lem : (w v : ℕ) → num (be_bytes w v) ≡ v % 256 ^ w
unfolding num num_from be_bytes
read_back_lem zero v = sym (mod-one v)
read_back_lem (suc w) v =
    one_more 0 (be_bytes w (v / 256)) (v % 256) ∙ ap (λ (n : ℕ). n * 256 + v % 256) (read_back_lem w (v / 256))
    ∙ sym (mod-mul v {m = 256 ^ w} {c = 256} (one-le-pow w 256 (omega arith)) (omega arith)) ∙ ap (λ (n : ℕ). v % n) (sym (pow-suc 256 w))

-- a number within the width is the number of its bytes
pub read_back_all : (w v : ℕ) → v < 256 ^ w → num (be_bytes w v) ≡ v
read_back_all w v h = read_back_lem w v ∙ mod-eq_of_lt h

-- bytes are the bytes of their number
pub write_back : (w : ℕ) (s : List ℕ) → w ≤ length s → Bytes s → be_bytes w (num (take w s)) ≡ take w s
unfolding num be_bytes
write_back zero s h k = refl
write_back (suc w) s h k =
    let e = take-suc s w 0 h in
    let m = num (take w s) in
    let x = get_or s w 0 in
    let q : (m * 256 + x) / 256 ≡ m = mul-add-div_right (omega arith) m x ∙ rw (div-eq_of_lt (k w)) (add-zero m) in
    let r : (m * 256 + x) % 256 ≡ x = mul-add-mod_self_right m 256 x ∙ mod-eq_of_lt (k w) in
    rw (e, one_more 0 (take w s) x, q, r, write_back w s (omega arith) k)

-- a number of w bytes is within the width
pub num_below : (w : ℕ) (s : List ℕ) → w ≤ length s → Bytes s → num (take w s) < 256 ^ w
unfolding num num_from
num_below zero s h k = omega arith
num_below (suc w) s h k =
    let b = num_below w s (omega arith) k in
    rw (take-suc s w 0 h, one_more 0 (take w s) (get_or s w 0), pow-suc) (omega (arith, k w))
