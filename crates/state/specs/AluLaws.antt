-- What the proofs of the values cite. Assumes nothing.
use Rattle.std.specs.Prelude.{◌≡◌, ℕ, ◌+◌, ◌*◌, ◌^◌, ◌<◌, ◌≤◌, ◌≢◌, Ok, Err}
use Rattle.std.proofs.Common.{ap, ◌∙◌, arith, lt-ltb, le-ltb}
use Rattle.words.specs.Wide.{Divides}
use Rattle.words.specs.WideLaws.{quotient, remainder}
use Rattle.state.specs.declared.alu.Wanted.{Wanted}
use Rattle.state.specs.declared.alu.Wanted.TheVariants.{Quotient, Rest}
use Rattle.state.specs.Alu.{word, part_of}
use Rattle.state.specs.declared.fault.Fault.TheVariants.{Overflow}

pub word_fits : (v : ℕ) → v < 2 ^ 64 → Ok v ≡ word v
word_fits v h = rw (lt-ltb v (2 ^ 64) h)

pub word_past : (v : ℕ) → 2 ^ 64 ≤ v → Err Overflow ≡ word v
word_past v h = rw (le-ltb v (2 ^ 64) h)

-- a product in two words, the higher 0 or not
pub product_word : (hi lo v : ℕ) → lo < 2 ^ 64 → hi * 2 ^ 64 + lo ≡ v → hi ≡ 0 → Ok lo ≡ word v
product_word hi lo v w e z =
    let k : lo ≡ v = omega (arith, e, z) in
    ap Ok k ∙ word_fits v (omega (arith, k, w))

pub product_past : (hi lo v : ℕ) → hi * 2 ^ 64 + lo ≡ v → (hi ≢ 0) → Err Overflow ≡ word v
product_past hi lo v e z = word_past v (omega (arith, e, z))

-- what an arm that divides two words is told of what is wanted
pub quotient_told : (w : Wanted) (n d q r : ℕ) → w ≡ Quotient → Divides n d q r → q ≡ part_of w n d
quotient_told w n d q r e h = rw e (quotient n d q r h)

pub rest_told : (w : Wanted) (n d q r : ℕ) → w ≡ Rest → Divides n d q r → r ≡ part_of w n d
rest_told w n d q r e h = rw e (remainder n d q r h)
