-- What a run's end leaves, from what `exec` tells of it.
use Rattle.std.specs.Prelude.{◌≡◌, List, ℕ}
use Rattle.machine.specs.Machine.{Env}
use Rattle.machine.specs.Turns.{End}
use Rattle.opening.specs.Opening.{Lent}
use Rattle.interp.specs.Call.{called, ending}
use Rattle.interp.specs.Runs.{EndsAs}
use Rattle.interp.specs.Wiping.{wiped_but}
use Rattle.interp.specs.declared.answer.Answer.{Answer}
use Rattle.interp.specs.declared.exec.Ended.{Ended}
use Rattle.words.specs.Refusals.{refusal}

-- the answer of a halt, from the state that it ended in
abbrev pub halt_answer : Ended → Answer
halt_answer x = record {
  end = refusal 0 0;
  fetches = x.fetches;
  used = x.run.meter.used;
  fetched = x.run.counts.fetched;
  changes = x.run.counts.changes;
  log = x.run.log;
  regs = x.file;
}

-- whatever end it tells of, the answer and the buffers are that end's
abbrev pub Finishes : Ended → Lent → Answer → Lent → Type 0
Finishes x b r a = (e : Env) (s : List ℕ) (end : End) → EndsAs e s end x b.run → called r a ≡ ending end b

-- the answer, and the changes and the log, of a run that ended in these, once the other buffers are zeroed
abbrev pub Closes : Ended → (changes log : List ℕ) → Answer → (changes' log' : List ℕ) → Type 0
Closes x ch lg r ch' lg' = (b : Lent) → b.run.keys.changes ≡ ch → b.run.log ≡ lg → Finishes x b r (wiped_but b ch' lg')
