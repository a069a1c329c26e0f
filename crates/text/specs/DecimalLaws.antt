-- What the loops over digits do in a turn. Assumes nothing.
use Rattle.std.specs.Prelude.{◌≡◌, refl, List, [], ◌∷◌, Bool, true, false, ℕ, zero, suc, ◌+◌, ◌-◌, ◌/◌, ◌%◌, ◌^◌, max, ◌*◌, ◌≤◌, ◌<◌, ltb, length, set}
use Rattle.std.proofs.Common.{ap, ◌∙◌, arith, add-one, sub-one, pow-suc, length-append, lt-ltb, le-ltb}
use Rattle.std.proofs.Math.Seq.{paste}
use Rattle.words.specs.Choice.{pick}
use Rattle.words.specs.BytesLaws.{last_first}
use Rattle.text.specs.Decimal.{last_digits, digit_count}

pub length_digits : (w n : ℕ) → length (last_digits w n) ≡ w
unfolding last_digits
length_digits zero n = refl
length_digits (suc w) n = length-append (last_digits w (n / 10)) ((48 + n % 10) ∷ []) ∙ ap (λ (k : ℕ). k + 1) (length_digits w (n / 10)) ∙ add-one w

-- a turn of the count: one digit more is known, and one less is left to count
pub digits_turn : (l n : ℕ) → 10 ≤ n → digit_count (suc l) n ≡ suc (digit_count l (n / 10))
unfolding digit_count
digits_turn l n h = rw (le-ltb n 10 h)

pub count_end : (l n : ℕ) → n < 10 → digit_count (suc l) n ≡ 1
unfolding digit_count
count_end l n h = rw (lt-ltb n 10 h)

-- a number between two powers of ten takes the digits of the lower one
pub count_power : (l n k : ℕ) → 10 ^ k ≤ max n 1 → max n 1 < 10 * 10 ^ k → k < l → digit_count l n ≡ k + 1
count_power zero n k h p q = absurd (omega arith)
count_power (suc l) n zero h p q = count_end l n (omega arith)
count_power (suc l) n (suc k) h p q =
    let e : 10 ^ suc k ≡ 10 ^ k * 10 = pow-suc 10 k in
    digits_turn l n (omega arith) ∙ omega (arith, count_power l (n / 10) k (omega arith) (omega arith) (omega arith))

pub count_most : (l n : ℕ) → digit_count l n ≤ l
unfolding digit_count
count_most zero n = omega arith
count_most (suc l) n = by (ltb n 10) (count_most l (n / 10))
  where
    by : (t : Bool) → digit_count l (n / 10) ≤ l → pick t 1 (suc (digit_count l (n / 10))) ≤ suc l
    by true h = omega arith
    by false h = omega arith

-- a turn of the writing, the last digit first
pub put_turn : (d : List ℕ) (at i x : ℕ) → 0 < i → at + i ≤ length d →
    paste d at (last_digits i x) i ≡ paste (set d (at + (i - 1)) (48 + x % 10)) at (last_digits (i - 1) (x / 10)) (i - 1)
unfolding last_digits
put_turn d at zero x p h = absurd (omega arith)
put_turn d at (suc j) x p h = rw sub-one (last_first d (last_digits j (x / 10)) at j (48 + x % 10) (length_digits j (x / 10)) (omega arith))
