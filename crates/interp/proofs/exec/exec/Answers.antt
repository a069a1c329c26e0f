-- `exec` meets its contract. The loop's invariant: what is left to run is the run. Assumes nothing.
use mathlib.Core.Path.{refl}
use borrow.Author.Rules.{rules}
use Rattle.interp.specs.RunLaws.{Taken, loop_begins, loop_refused, step_ready, loop_faults, loop_halts, loop_goes, loop_shrinks}
use Rattle.interp.proofs.exec.exec.Goals as goal
use Rattle.interp.proofs.exec.exec.Goals.{After-instruction-i}

-- the turn's instruction and the run that it steps from
taken_at : (c : After-instruction-i) →
    Taken c.args.program.code.now c.loop-fault.run c.instruction-i.result c.in-Ok.q
taken_at c = record {
  out = c.decode-d.result;
  read = c.decode-d.ensures;
  fetched = rw c.in-Ok.is at c.fetch.ensures;
  is_in = c.instruction-i.ensures;
}

pub loop-fault-init : goal.loop-fault-init
loop-fault-init c = record { kept = search rules; rest = loop_begins c.new-file.ensures }

pub returns-in-Err-clause-runs : goal.returns-in-Err-clause-runs
returns-in-Err-clause-runs c =
    rw c.from.ensures (loop_refused c.loop-fault.invariant.rest c.decode-d.ensures c.in-Err.fault (rw c.in-Err.is at c.fetch.ensures) refl)

pub step-t-requires : goal.step-t-requires
step-t-requires c =
    step_ready c.loop-fault.invariant.rest (taken_at (goal.at-step-t-requires c).After-instruction-i) c.requires

pub returns-then-t-ne0-clause-runs : goal.returns-then-t-ne0-clause-runs
returns-then-t-ne0-clause-runs c =
    rw c.numbered.ensures (loop_faults c.loop-fault.invariant.rest (taken_at (goal.at-returns-then-t-ne0-clause-runs c).After-instruction-i) c.step-t.ensures.steps c.if-t-ne0.true _)

pub returns-then-t-clause-runs : goal.returns-then-t-clause-runs
returns-then-t-clause-runs c =
    rw c.numbered-then-t.ensures (loop_halts c.loop-fault.invariant.rest (taken_at (goal.at-returns-then-t-clause-runs c).After-instruction-i) c.step-t.ensures.steps c.if-t-ne0.false c.if-t.true c.put-file.ensures)

pub loop-fault-smaller : goal.loop-fault-smaller
loop-fault-smaller c =
    loop_shrinks c.loop-fault.invariant.rest (taken_at (goal.at-loop-fault-smaller c).After-instruction-i) c.step-t.ensures.steps c.requires c.if-t-ne0.false c.if-t.false

pub loop-fault-preserved : goal.loop-fault-preserved
loop-fault-preserved c = record { kept = search rules; rest = loop_goes c.loop-fault.invariant.rest (taken_at (goal.at-loop-fault-preserved c).After-instruction-i) c.step-t.ensures.steps c.if-t-ne0.false c.if-t.false c.put-file.ensures }
