-- What a run's end tells of the machine's.
use Rattle.std.specs.Prelude.{◌≡◌, List, ℕ, suc, ◌-◌, ◌<◌}
use Rattle.words.specs.Refusals.{refusal}
use Rattle.state.specs.Regs.{cleared}
use Rattle.machine.specs.Machine.{Env, Machine}
use Rattle.machine.specs.Turns.{End, halted, faulted, run_of}
use Rattle.machine.specs.Lent.{Bufs}
use Rattle.machine.specs.Sound.{machine_of, Sound}
use Rattle.machine.specs.declared.run.Run.{Run}
use Rattle.interp.specs.Ties.{GivenParts, Suits}
use Rattle.interp.specs.declared.exec.Ended.{Ended}

-- nothing fetched yet, and sound in an environment of the parts
pub record Begun (e : Env) (p : GivenParts) (r : Run) (b : Bufs) : Type 0 where
  pub suits : Suits e p
  pub none : r.fetches ≡ 0
  pub sound : Sound e p.replies r.meter.used r b

pub record Starts (p : GivenParts) (r : Run) (b : Bufs) : Type 0 where
  pub env : Env
  pub begun : Begun env p r b

-- the machine of a halt is in the state and the bytes, which are sound; a fault has its refusal and fetches
pub record HaltsIn (e : Env) (s : List ℕ) (r : Ended) (b : Bufs) (m : Machine) : Type 0 where
  pub end : r.end ≡ refusal 0 0
  pub fetches : r.fetches ≡ m.fetches
  pub is : machine_of s r.run r.file b ≡ m
  pub sound : Sound e s 0 r.run b

abbrev pub EndsAs : Env → List ℕ → End → Ended → Bufs → Type 0
EndsAs e s (halted m) r b = HaltsIn e s r b m
EndsAs e s (faulted x k) r b = (r.end ≡ x) × (0 < x.number) × (r.fetches ≡ k)

-- in every environment of the parts a run ends as the machine's
abbrev pub Runs : GivenParts → Run → Bufs → Ended → Bufs → Type 0
Runs p r b x a = (e : Env) → Begun e p r b → EndsAs e p.replies (run_of (suc (e.limit - r.meter.used)) e (machine_of p.replies r cleared b)) x a
