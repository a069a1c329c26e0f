-- Products of half words, and the columns of a product of words. Assumes nothing.
use mathlib.Core.Path.{◌≡◌, ◌∙◌}
use Prim.Native.Nat.{ℕ, ◌+◌, ◌*◌, ◌-◌, ◌/◌, ◌%◌, ◌^◌, ◌≤◌, ◌<◌}
use native.Mathlib.Omega.{arith}
use native.Mathlib.Nat.{mul-le-mul, div-add-mod'}
use Rattle.words.proofs.Words.{digits_mul, mul_digits}

-- a product of two half words leaves room for two more
pub room : (a b : ℕ) → a < 2 ^ 32 → b < 2 ^ 32 → a * b ≤ (2 ^ 32 - 1) * (2 ^ 32 - 1)
room a b h k = mul-le-mul {n₁ = a} {m₁ = b} {n₂ = 2 ^ 32 - 1} {m₂ = 2 ^ 32 - 1} (omega arith) (omega arith)

-- a product of two numbers in halves
halves : (a b c d : ℕ) → (a * 2 ^ 32 + b) * (c * 2 ^ 32 + d) ≡ a * c * 2 ^ 64 + (a * d + b * c) * 2 ^ 32 + b * d
halves a b c d = omega (arith, digits_mul a (2 ^ 32) b (c * 2 ^ 32 + d), mul_digits a c (2 ^ 32) d, mul_digits b c (2 ^ 32) d)

-- the four columns of x * y + z
pub columns : (x y z low mid side hi : ℕ)
    → low ≡ x % 2 ^ 32 * (y % 2 ^ 32) + z % 2 ^ 32 + 0
    → mid ≡ x / 2 ^ 32 * (y % 2 ^ 32) + z / 2 ^ 32 + low / 2 ^ 32
    → side ≡ x % 2 ^ 32 * (y / 2 ^ 32) + mid % 2 ^ 32 + 0
    → hi ≡ x / 2 ^ 32 * (y / 2 ^ 32) + mid / 2 ^ 32 + side / 2 ^ 32
    → hi * 2 ^ 64 + (side % 2 ^ 32 * 2 ^ 32 + low % 2 ^ 32) ≡ x * y + z
columns x y z low mid side hi l m s h =
    let e : x * y ≡ (x / 2 ^ 32 * 2 ^ 32 + x % 2 ^ 32) * (y / 2 ^ 32 * 2 ^ 32 + y % 2 ^ 32) = rw (div-add-mod' x (2 ^ 32), div-add-mod' y (2 ^ 32)) in
    omega (arith, e ∙ halves (x / 2 ^ 32) (x % 2 ^ 32) (y / 2 ^ 32) (y % 2 ^ 32))
