-- Lines of an answer and of a change from their pieces. Assumes nothing.
use Rattle.std.specs.Prelude.{◌≡◌, refl, Bool, true, false, List, ℕ, ◌≤◌, eqb, length, take, drop}
use Rattle.std.proofs.Common.{arith, length-take-le}
use Rattle.words.specs.Bytes.{num}
use Rattle.words.specs.Choice.{pick}
use Rattle.words.specs.Laid.{Laid}
use Rattle.text.specs.Decimal.{field_of}
use Rattle.text.specs.LaidLaws.{field_room, laid_next}
use Rattle.text.specs.Ascii.{ascii}
use Rattle.text.specs.Hex.{hex_of}
use Rattle.text.specs.HexLaws.{length_hex}
use Rattle.lines.specs.Names.{name_of}
use Rattle.lines.specs.NameLaws.{length_name}
use Rattle.lines.specs.AnswerLines.{end_word, fault_line, used_line, change_line}

pub length_word : (fetches : ℕ) → length (end_word fetches) ≡ 8
unfolding end_word ascii
length_word fetches = by (eqb fetches 0)
  where
    by : (t : Bool) → length (pick t (ascii "refused ") (ascii "faulted ")) ≡ 8
    by true = refl
    by false = refl

pub fault_laid : (d t u v w : List ℕ) (n a f p q r s : ℕ) → 96 ≤ length d → Laid d 0 (field_of (end_word f) n) t p → Laid t p (ascii " ") u q →
    Laid u q (name_of n) v r → Laid v r (field_of (ascii " ") a) w s → Laid d 0 (fault_line n a f) w s
unfolding fault_line ascii
fault_laid d t u v w n a f p q r s h x y z k =
    let worded : p ≤ 28 = omega (arith, field_room d t (end_word f) 0 n p x, length_word f) in
    let named : r ≤ 53 = omega (arith, y.end, z.end, length_name n) in
    let last : s ≤ 74 = omega (arith, field_room v w (ascii " ") r a s k) in
    laid_next (omega arith) (laid_next (omega arith) (laid_next (omega (arith, y.end)) x y) z) k

pub used_laid : (d t u : List ℕ) (n m r s : ℕ) → 96 ≤ length d → Laid d 0 (field_of (ascii "used ") n) t r →
    Laid t r (field_of (ascii " of ") m) u s → Laid d 0 (used_line n m) u s
unfolding used_line ascii
used_laid d t u n m r s h x y =
    laid_next (omega (arith, field_room d t (ascii "used ") 0 n r x, field_room t u (ascii " of ") r m s y)) x y

pub change_laid : (d t u row : List ℕ) (v r s : ℕ) → 96 ≤ length d → length row ≡ 40 → v ≡ num (take 8 (drop 32 row)) →
    Laid d 0 (hex_of (take 32 row)) t r → Laid t r (field_of (ascii " = ") v) u s → Laid d 0 (change_line row) u s
unfolding change_line ascii
change_laid d t u row v r s h l e x y =
    let key : r ≡ 64 = omega (arith, x.end, length_hex (take 32 row), length-take-le 32 row (omega arith)) in
    rw (← e) (laid_next (omega (arith, field_room t u (ascii " = ") r v s y)) x y)
