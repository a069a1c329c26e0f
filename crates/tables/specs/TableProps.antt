-- Rising rows are so in one way only, so a struct may hold that fact. Assumes nothing.
use Rattle.std.specs.Prelude.{ℕ, List, [], ◌∷◌}
use Rattle.std.specs.Coded.{×_prop, Unit-prop, le_prop}
use Rattle.std.proofs.Props.{props}
use Rattle.tables.specs.Rows.{Row, Rising}

pub Rising-prop : (lo : ℕ) (rs : List Row) → IsProp (Rising lo rs)
Rising-prop lo [] = Unit-prop
Rising-prop lo (r ∷ rs) = ×_prop le_prop (Rising-prop _ rs)

pub ruleset table_props = (Rising-prop, props)
