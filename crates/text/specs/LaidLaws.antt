-- Numbers and fields laid down, and a piece behind others. Assumes nothing.
use Rattle.std.specs.Prelude.{List, ◌++◌, ℕ, ◌+◌, ◌≤◌, length}
use Rattle.std.proofs.Common.{arith, length-append}
use Rattle.text.specs.Decimal.{digit_count, decimal_of, field_of}
use Rattle.text.specs.DecimalLaws.{length_digits, count_most}
use Rattle.words.specs.Laid.{Laid}
use Rattle.words.specs.LaidLaws.{laid_then}

-- a number takes 20 digits at most
pub length_decimal : (n : ℕ) → length (decimal_of n) ≤ 20
unfolding decimal_of
length_decimal n = omega (arith, length_digits (digit_count 20 n) n, count_most 20 n)

pub length_field : (name : List ℕ) (n : ℕ) → length (field_of name n) ≤ length name + 20
unfolding field_of
length_field name n = omega (arith, length-append name (decimal_of n), length_decimal n)

-- where a field may end
pub field_room : (d u name : List ℕ) (at n r : ℕ) → Laid d at (field_of name n) u r → r ≤ at + length name + 20
field_room d u name at n r x = omega (arith, x.end, length_field name n)

-- a name and then its number are the field
pub laid_field : (d u v name : List ℕ) (at r s n : ℕ) → at + length name + 20 ≤ length d →
    Laid d at name u r → Laid u r (decimal_of n) v s → Laid d at (field_of name n) v s
unfolding field_of
laid_field d u v name at r s n h x y = laid_then d name (decimal_of n) u v at r s (omega (arith, length_decimal n)) x y

-- a piece behind others, where the last one ends within the bytes
pub laid_next : {d a b u v : List ℕ} {at r s : ℕ} → s ≤ length d → Laid d at a u r → Laid u r b v s → Laid d at (a ++ b) v s
laid_next {d} {a} {b} {u} {v} {at} {r} {s} h x y = laid_then d a b u v at r s (omega (arith, x.end, y.end)) x y
