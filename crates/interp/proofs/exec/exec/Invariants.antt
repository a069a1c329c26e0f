use Prim.Native.Nat.{suc, ◌-◌}
use Rattle.interp.specs.Held.{parts_of, held, Kept}
use Rattle.interp.specs.RunLaws.{Looping}
use Rattle.interp.proofs.exec.exec.Given as goal

abbrev pub invariant-loop-fault : goal.invariant-loop-fault
invariant-loop-fault l = record {
  kept : Kept l.initial.work l.work;
  rest : Looping (parts_of l.program) l.initial.run (held l.initial.work) l.run l.file (held l.work);
}

abbrev pub decreases-loop-fault : goal.decreases-loop-fault
decreases-loop-fault l =
    suc (l.initial.run.meter.limit - l.initial.run.meter.used) - l.run.fetches
