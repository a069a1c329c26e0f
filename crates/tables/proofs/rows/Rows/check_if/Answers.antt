-- What `check_if` accepts is a table. Assumes nothing.
use Rattle.std.proofs.Common.{sym, ◌∙◌}
use Rattle.tables.specs.CheckTheorems.{table_if}
use Rattle.tables.proofs.rows.Rows.check_if.Goals as goal

pub invariant_of-result : goal.invariant_of-result
invariant_of-result g c = record { table = table_if g.row.W _ c.requires _ _ (sym c.check_if.ensures ∙ c.in_ok-count.was) }
