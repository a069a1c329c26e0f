-- Bytes in hexadecimal: two digits each, the high one first, in lower case.
use Rattle.std.specs.Prelude.{List, [], ◌∷◌, ℕ, ◌+◌, ◌/◌, ◌%◌, ltb}
use Rattle.words.specs.Choice.{pick}

-- 0 to 9, then a to f
unfoldable pub digit_of : ℕ → ℕ
digit_of d = pick (ltb d 10) (48 + d) (87 + d)

unfoldable pub hex_of : List ℕ → List ℕ
hex_of [] = []
hex_of (x ∷ xs) = digit_of (x / 16) ∷ digit_of (x % 16) ∷ hex_of xs
