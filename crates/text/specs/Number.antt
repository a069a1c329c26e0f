-- A number in decimal digits, below 2^64.
use Rattle.std.specs.Prelude.{List, [], ◌∷◌, ℕ, ◌+◌, ◌*◌, ◌-◌, leb, Option, Some, None}
use Rattle.words.specs.Choice.{pick, both}

-- a number and a digit behind it
unfoldable pub with_digit : ℕ → ℕ → Option ℕ
with_digit n x =
    pick (both (leb 48 x) (leb x 57)) (pick (leb (n * 10 + (x - 48)) 18446744073709551615) (Some (n * 10 + (x - 48))) None) None

unfoldable pub parsed_from : Option ℕ → List ℕ → Option ℕ
parsed_from p [] = p
parsed_from (Some n) (x ∷ xs) = parsed_from (with_digit n x) xs
parsed_from None (x ∷ xs) = None

-- no digits are no number
unfoldable pub parsed_of : List ℕ → Option ℕ
parsed_of [] = None
parsed_of (x ∷ xs) = parsed_from (Some 0) (x ∷ xs)
