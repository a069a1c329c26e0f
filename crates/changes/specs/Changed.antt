-- Rows that kept their starting value, the changed rows of lent tables, and rows in front of an output.
use Rattle.std.specs.Prelude.{Bool, List, ◌++◌, ℕ, ◌*◌, length, drop, eqb}
use Rattle.tables.specs.Rows.{Row, bytes_of}
use Rattle.tables.specs.Content.{content}
use Rattle.tables.specs.declared.rows.Rows.{Rows}
use Rattle.changes.specs.ChangeList.{start_of, changed}

-- whether a row's value is its key's starting value
abbrev pub sameb : (store loader : List Row) → Row → Bool
sameb store loader r = eqb r.value (start_of store loader r.key)

-- the changed ones of the rows of a table
abbrev pub changed_in : (changes store loader : Rows 40) → List Row
changed_in changes store loader = changed (content store) (content loader) (content changes)

-- the bytes of rows, then what stood past them
abbrev pub written : List Row → List ℕ → List ℕ
written rs out = bytes_of 40 rs ++ drop (length rs * 40) out
