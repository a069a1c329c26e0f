-- `registers` meets its contract. Assumes nothing.
use Rattle.std.specs.Prelude.{Ok}
use Rattle.std.proofs.Common.{ap, ◌∙◌}
use borrow.Author.Rules.{rules}
use Rattle.interp.specs.OperateLaws.{operate_put, operate_wide, operate_fault}
use Rattle.interp.proofs.registers.registers.Goals as goal

pub returns-in-Ok-Put : goal.returns-in-Ok-Put
returns-in-Ok-Put c = rw c.set.ensures (operate_put _ _ _ _ c.operate.ensures _ _ (c.in-Ok-Put.is ∙ ap Ok c.in-Ok-Put.field-0-is))

pub returns-in-Ok-PutWide : goal.returns-in-Ok-PutWide
returns-in-Ok-PutWide c =
    rw c.set_wide.ensures (operate_wide _ _ _ _ c.operate.ensures _ _ _ (search rules) (c.in-Ok-PutWide.is ∙ ap Ok c.in-Ok-PutWide.field-0-is))

pub returns-in-Err : goal.returns-in-Err
returns-in-Err c = rw c.stop.ensures (operate_fault _ _ _ _ c.operate.ensures _ c.in-Err.is)
