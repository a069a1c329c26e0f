-- `merge::put_row` meets its contract: there is room, so the row is in. Assumes nothing.
use Rattle.std.specs.Prelude.{refl}
use Rattle.tables.specs.Rows.{row_in}
use Rattle.tables.specs.MadeLaws.{as_row}
use Rattle.changes.specs.MergeLaws.{put_counted}
use Rattle.changes.proofs.merge.put_row.Goals as goal

pub returns : goal.returns
returns c =
    let a = c.args in
    put_counted (row_in 40 a.row.now) a.t.now _ a.m c.requires.0 c.insert.result
    (as_row 40 a.m _ _ _ a.row.now _ c.requires.1 refl c.insert.ensures) _ c.unwrap_or.ensures c.requires.2 c.insert.auto.t
