-- Keys whose starting value is zero and whose end value is not (demand 3, growth).
use Rattle.std.specs.Prelude.{Bool, not, List, [], ◌∷◌, ℕ, ◌+◌, eqb, Option, Some, None}
use Rattle.words.specs.Choice.{both, bit}
use Rattle.tables.specs.Rows.{Row}
use Rattle.keys.specs.Known.{KeyEnv}
use Rattle.changes.specs.ChangeList.{start_of}

-- an absent loader has no rows
unfoldable pub loader_rows : Option (List Row) → List Row
loader_rows None = []
loader_rows (Some rs) = rs

-- the store's value, else the loader's, else 0
unfoldable pub start_in : KeyEnv → ℕ → ℕ
start_in e k = start_of e.store (loader_rows e.loader) k

-- a row of the changes whose key started as zero and whose value is not
unfoldable pub grew : (start : ℕ → ℕ) → Row → Bool
grew start r = both (eqb (start r.key) 0) (not (eqb r.value 0))

-- how many rows pass a test
unfoldable pub tally : (Row → Bool) → List Row → ℕ
tally f [] = 0
tally f (r ∷ rs) = bit (f r) + tally f rs
