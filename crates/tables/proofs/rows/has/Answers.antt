-- `tables::rows::has` meets its contract: a key that is found has a value. Assumes nothing.
use Rattle.std.proofs.Common.{ap, ◌∙◌}
use Rattle.std.specs.Result.{is_ok}
use Rattle.tables.specs.SearchLaws.{found_is_some}
use Rattle.tables.proofs.rows.has.Goals as goal

pub returns : goal.returns
returns c = c.is_ok.ensures.value ∙ ap is_ok c.find.ensures ∙ found_is_some _ _
