-- What a row put into a table leaves.
use Rattle.std.specs.Prelude.{◌≡◌, List, ℕ, ◌+◌, ◌*◌, ◌≤◌, drop}
use Rattle.tables.specs.Rows.{Row, rows, insert}
use Rattle.tables.specs.Table.{Table}

-- u is t, whose first m rows were a table, after x was put in; it has r rows now
pub record RowPut (x : Row) (m : ℕ) (t u : List ℕ) (r : ℕ) : Type 0 where
  pub table : Table 40 r u
  pub is : rows 40 r u ≡ insert x (rows 40 m t)
  pub rest : drop (r * 40) u ≡ drop (r * 40) t
  pub least : m ≤ r
  pub most : r ≤ m + 1
