-- Laws of tests that are joined. Assumes nothing.
use Rattle.std.specs.Prelude.{◌≡◌, refl, Bool, true, false, ℕ, ◌≤◌}
use Rattle.std.proofs.Common.{arith}
use Rattle.words.specs.Choice.{both, bit}

pub both_assoc : (a b c : Bool) → both (both a b) c ≡ both a (both b c)
both_assoc true b c = refl
both_assoc false b c = refl

pub both_true : (a : Bool) → both a true ≡ a
both_true true = refl
both_true false = refl

pub both_false : (a : Bool) → both a false ≡ false
both_false true = refl
both_false false = refl

pub both_left : (a b : Bool) → both a b ≡ true → a ≡ true
both_left true b e = refl
both_left false b e = e

pub both_right : (a b : Bool) → both a b ≡ true → b ≡ true
both_right true b e = e
both_right false b e = let z : ◌≡◌ {A = ℕ} 0 1 = cc in absurd (omega arith)

pub bit_small : (b : Bool) → bit b ≤ 1
bit_small true = omega arith
bit_small false = omega arith
