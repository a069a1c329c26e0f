-- `entry_offset` meets its contract: the bytes are read, then the entries searched. Assumes nothing.
use Rattle.std.proofs.lemmas.Result.{err_from_is_err_and}
use Rattle.container.specs.ReadToldLaws.{read_told}
use Rattle.container.specs.OffsetLaws.{offset_unreadable, offset_missing, offset_done}
use Rattle.container.proofs.offsets.entry_offset.Goals as goal

pub returns-in_err-l : goal.returns-in_err-l
returns-in_err-l c =
    let p = err_from_is_err_and c.from_residual.result c.from_residual.ensures.1 in
    rw (p.1, p.2) (offset_unreadable c.args.s.now c.args.selector _ c.in_err-l.ensures)

pub returns-in_err-e : goal.returns-in_err-e
returns-in_err-e c =
    let p = err_from_is_err_and c.from_residual-in_err-e.result c.from_residual-in_err-e.ensures.1 in
    let e = c.in_err-e.ensures in
    rw (p.1, p.2) (offset_missing c.args.s.now c.args.selector _ (read_told c.args.s.now _ c.in_ok-l.ensures) _ c.find.ensures _ e.value e.ok_part)

pub returns : goal.returns
returns c = offset_done c.args.s.now c.args.selector _ (read_told c.args.s.now _ c.in_ok-l.ensures) _ c.find.ensures _ c.in_ok-e.ensures.ok_part
