-- The rows of a loader that code holds as one value, if there is one.
use Rattle.std.specs.Prelude.{List, Option, Some, None}
use Rattle.tables.specs.Rows.{Row}
use Rattle.tables.specs.Content.{content}
use Rattle.tables.specs.declared.rows.Rows.{Rows}

abbrev pub loader_content : Option (Rows 40) → Option (List Row)
loader_content (Some t) = Some (content t)
loader_content None = None
