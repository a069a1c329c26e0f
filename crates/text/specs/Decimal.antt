-- A number in decimal digits, none of them in vain.
use Rattle.std.specs.Prelude.{List, [], ◌∷◌, ◌++◌, ℕ, zero, suc, ◌+◌, ◌/◌, ◌%◌, ltb}
use Rattle.words.specs.Choice.{pick}

-- the last w digits of a number, in ASCII
unfoldable pub last_digits : ℕ → ℕ → List ℕ
last_digits zero n = []
last_digits (suc w) n = last_digits w (n / 10) ++ ((48 + n % 10) ∷ [])

-- how many digits it takes, up to a limit
unfoldable pub digit_count : (limit : ℕ) → ℕ → ℕ
digit_count zero n = 0
digit_count (suc l) n = pick (ltb n 10) 1 (suc (digit_count l (n / 10)))

-- 64 bits take 20 digits at most
unfoldable pub decimal_of : ℕ → List ℕ
decimal_of n = last_digits (digit_count 20 n) n

-- a name, then a number
unfoldable pub field_of : List ℕ → ℕ → List ℕ
field_of name n = name ++ decimal_of n
