-- The number of events among effects.
use Rattle.std.specs.Prelude.{Bool, List, [], ◌∷◌, ℕ, ◌+◌, eqb}
use Rattle.words.specs.Choice.{bit, either}
use Rattle.effects.specs.Log.{Effect}

-- the number of effects of kind 1
unfoldable pub events : List Effect → ℕ
events [] = 0
events (e ∷ es) = bit (eqb e.kind 1) + events es

-- the number of all effects, or of events only
unfoldable pub count_of : Bool → List Effect → ℕ
count_of all [] = 0
count_of all (e ∷ es) = bit (either all (eqb e.kind 1)) + count_of all es
