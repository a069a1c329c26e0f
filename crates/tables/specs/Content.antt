-- The rows of a table that code holds as one value.
use Rattle.std.specs.Prelude.{ℕ, List}
use Rattle.tables.specs.Rows.{Row, rows}
use Rattle.tables.specs.declared.rows.Rows.{Rows}

abbrev pub content : {W : ℕ} → Rows W → List Row
content {W} t = rows W t.count t.bytes.now
