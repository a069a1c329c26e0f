-- Whether bytes are a table (document 01, number 45: not whole rows, or keys not strictly rising).
use Rattle.std.specs.Prelude.{Bool, true, List, [], ◌∷◌, ℕ, suc, length, leb, Option, Some, None}
use Rattle.words.specs.Choice.{pick, both}
use Rattle.words.specs.Whole.{whole_of}
use Rattle.tables.specs.Rows.{Row, rows}

-- keys strictly rising, the first at least lo, as a test
unfoldable pub risingb : ℕ → List Row → Bool
risingb lo [] = true
risingb lo (r ∷ rs) = both (leb lo r.key) (risingb (suc r.key) rs)

-- the number of rows of a whole table, or bad
unfoldable pub checked_of : ℕ → List ℕ → Option ℕ
checked_of w t = whole_of (λ n. risingb 0 (rows w n t)) Some None (length t) w

-- of a table that may be absent: no rows where it is, and its bytes are not looked at
abbrev pub checked_if : Bool → ℕ → List ℕ → Option ℕ
checked_if present w t = pick present (checked_of w t) (Some 0)
