-- What was checked are tables.
use Rattle.std.proofs.Common.{arith, sym, ◌∙◌}
use Rattle.tables.specs.CheckTheorems.{whole_table, table_if}
use Rattle.replay_key_steps.proofs.run.rows_of.Goals as goal

pub returns : goal.returns
returns c =
    let a = c.args in (
      whole_table 40 a.store.now (omega arith) _ (sym c.check.ensures ∙ c.in_ok-check.was),
      λ _. table_if 40 a.loader.now (omega arith) a.has_loader _ (sym c.check_if.ensures ∙ c.in_ok-check_if.was),
    )
