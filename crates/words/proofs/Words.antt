-- Numbers in two digits times a number, the two words of a number, and what an estimate of a quotient is. Assumes nothing.
use mathlib.Core.Path.{◌≡◌, sym, ap, ◌∙◌}
use Prim.Native.Nat.{ℕ, ◌+◌, ◌*◌, ◌/◌, ◌%◌, ◌^◌, ◌≤◌, ◌<◌}
use native.Mathlib.Nat.{mul-add, add-mul, mul_assoc, mul_right_comm}
use lib.Pow.{high, low}
use Rattle.words.specs.declared.product.Wide.{Wide}
use Rattle.words.specs.Wide.{wide}

-- two digits times a number, from either side
pub digits_mul : (h k l m : ℕ) → (h * k + l) * m ≡ h * m * k + l * m
digits_mul h k l m = add-mul (h * k) l m ∙ ap (λ (x : ℕ). x + l * m) (mul_right_comm h k m)

pub mul_digits : (m h k l : ℕ) → m * (h * k + l) ≡ m * h * k + m * l
mul_digits m h k l = mul-add m (h * k) l ∙ ap (λ (x : ℕ). x + m * l) (sym (mul_assoc m h k))

-- the upper word of a number, and the lower
pub upper_word : (h l n : ℕ) → l < 2 ^ 64 → h * 2 ^ 64 + l ≡ n → h ≡ n / 2 ^ 64
upper_word h l n w e = sym (high h 64 w) ∙ ap (λ (x : ℕ). x / 2 ^ 64) e

pub lower_word : (h l n : ℕ) → l < 2 ^ 64 → h * 2 ^ 64 + l ≡ n → l ≡ n % 2 ^ 64
lower_word h l n w e = sym (low h 64 w) ∙ ap (λ (x : ℕ). x % 2 ^ 64) e

-- an estimate of n by d is not below the quotient, and its product with d's upper word is not above n's
abbrev pub Estimate : Wide → Wide → ℕ → Type 0
Estimate n d e = (0 < wide d) × (wide n / wide d ≤ e) × (e * d.hi ≤ n.hi)
