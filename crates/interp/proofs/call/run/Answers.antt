-- `run` meets its contract. Assumes nothing.
use Rattle.interp.specs.CallLaws.{call_bad, call_refused, call_entered, call_runs}
use borrow.Author.Rules.{rules}
use Rattle.interp.specs.Held.{held_with}
use Rattle.interp.proofs.call.run.Goals as goal

pub returns-then-not-sizes_fit : goal.returns-then-not-sizes_fit
returns-then-not-sizes_fit c = call_bad _ _ _ _ _ _ _ _ c.sizes_fit.ensures c.if-not-sizes_fit.true _ (rw c.from.ensures at c.refused.ensures)

pub enter-requires : goal.enter-requires
enter-requires c =
    call_entered _ _ _ _ _ _ _ _ c.sizes_fit.ensures c.if-not-sizes_fit.false _ c.open.ensures _ c.in-Ok.is

pub returns-in-Ok : goal.returns-in-Ok
returns-in-Ok c =
    let is = call_runs _ _ _ _ _ _ _ _ c.sizes_fit.ensures c.if-not-sizes_fit.false _ c.open.ensures _ c.in-Ok.is c.enter.result (held_with c.enter.new.work c.enter.new.starts) c.enter.ensures.enters in
    search (rules, is)

pub returns-in-Err : goal.returns-in-Err
returns-in-Err c =
    call_refused _ _ _ _ _ _ _ _ c.sizes_fit.ensures c.if-not-sizes_fit.false _ c.open.ensures _ c.in-Err.is _ c.refused-in-Err.ensures
