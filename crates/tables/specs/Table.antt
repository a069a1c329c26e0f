-- A table: sorted rows at the front of lent bytes, and what a row put in leaves.
use Rattle.std.specs.Prelude.{◌≡◌, List, ℕ, ◌*◌, ◌≤◌, length, drop, leb, Option, Some, None}
use Rattle.words.specs.Choice.{pick}
use Rattle.tables.specs.Rows.{Row, rows, Rising, insert}

-- n sorted rows of w bytes stand in t
pub record Table (w n : ℕ) (t : List ℕ) : Type 0 where
  pub wide : 32 ≤ w
  pub fits : n * w ≤ length t
  pub rising : Rising 0 (rows w n t)

-- t is n whole rows of w bytes with keys strictly rising
abbrev pub WholeTable : ℕ → ℕ → List ℕ → Type 0
WholeTable w n t = (length t ≡ n * w) × Rising 0 (rows w n t)

-- what t becomes: the rows rs and the bytes after them as they were, or t itself
abbrev pub After : Option ℕ → ℕ → List Row → List ℕ → List ℕ → Type 0
After (Some m) w rs t u = (rows w m u ≡ rs) × (drop (m * w) u ≡ drop (m * w) t)
After None w rs t u = u ≡ t

-- how many rows there are then, if they fit
unfoldable pub stored_of : ℕ → List Row → List ℕ → Option ℕ
stored_of w rs t = pick (leb (length rs * w) (length t)) (Some (length rs)) None

-- u is t after x was put into its n rows, if it fits, and r says so
pub record Inserted (w n : ℕ) (x : Row) (t u : List ℕ) (r : Option ℕ) : Type 0 where
  pub answer : r ≡ stored_of w (insert x (rows w n t)) t
  pub bytes : After r w (insert x (rows w n t)) t u
