-- What `check` accepts is a table. Assumes nothing.
use Rattle.std.proofs.Common.{sym, ◌∙◌}
use Rattle.tables.specs.CheckTheorems.{whole_table}
use Rattle.tables.proofs.rows.Rows.check.Goals as goal

pub invariant_of-result : goal.invariant_of-result
invariant_of-result g c = record { table = whole_table g.row.W _ c.requires _ (sym c.check.ensures ∙ c.in_ok-count.was) }
