-- Numbers in a list.
use Rattle.std.specs.Prelude.{Bool, false, List, [], ◌∷◌, ℕ, eqb, get_or}
use Rattle.words.specs.Choice.{either}

-- whether a number stands in a list
unfoldable pub member : ℕ → List ℕ → Bool
member k [] = false
member k (x ∷ xs) = either (eqb x k) (member k xs)

-- number k, 0 past the end
abbrev pub nth : List ℕ → ℕ → ℕ
nth xs k = get_or xs k 0
