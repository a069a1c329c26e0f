-- From a run's state and lent bytes to the machine, and what holds of them between turns.
use Rattle.std.specs.Prelude.{◌≡◌, List, [], ◌∷◌, ℕ, zero, suc, ◌+◌, ◌-◌, ◌*◌, ◌≤◌, ◌<◌, length, take, drop, get_or, replicate}
use Rattle.keys.specs.Lent.{keys_of, rooms_of}
use Rattle.keys.specs.Sound.{Good}
use Rattle.effects.specs.Log.{Effect, FitTrailers, log_of}
use Rattle.effects.specs.ReadBack.{effects_of}
use Rattle.effects.specs.Counts.{events}
use Rattle.meter.specs.declared.Meter.{Meter}
use Rattle.state.specs.declared.regs.RegFile.{RegFile}
use Rattle.machine.specs.Machine.{Env, Machine, machine}
use Rattle.machine.specs.Lent.{Bufs, replies_left}
use Rattle.machine.specs.declared.run.Run.{Run}

-- the words below a depth, the last first
unfoldable pub stack_of : ℕ → List ℕ → List ℕ
stack_of zero words = []
stack_of (suc d) words = get_or words d 0 ∷ stack_of d words

-- the machine of a state: replies' bytes, the run, its registers and its bytes
unfoldable pub machine_of : List ℕ → Run → RegFile → Bufs → Machine
machine_of s r f b =
    machine f b.memory (stack_of r.depth b.stack) r.pc (keys_of r.counts b.keys) (effects_of (take r.log b.log))
    r.posted r.keyed (replies_left s r.replies) r.meter.used r.fetches

-- a log's first n bytes are the log of small effects, and zeroes stand after them
pub record Logged (n : ℕ) (log : List ℕ) : Type 0 where
  pub within : n ≤ length log
  pub small : FitTrailers (effects_of (take n log))
  pub is : take n log ≡ log_of (effects_of (take n log))
  pub rest : drop n log ≡ replicate (length log - n) 0

-- the events are those of the log's effects, no more than the bytes that are counted, and both totals are within their cap
pub record Counted (count total entries : ℕ) (es : List Effect) : Type 0 where
  pub events : count ≡ events es
  pub no_more : count ≤ total
  pub posted : total ≤ 1048576
  pub keyed : entries ≤ 1048576

-- what is lent is as long as the environment says
pub record Sized (e : Env) (b : Bufs) : Type 0 where
  pub memory : length b.memory ≡ 65536
  pub stack : length b.stack ≡ 1024
  pub rooms : e.rooms ≡ rooms_of b.keys
  pub log : e.log_room ≡ length b.log

-- the meter is the environment's and within it, and what is used is d or more above the fetches
pub record Metered (e : Env) (d : ℕ) (m : Meter) (fetches : ℕ) : Type 0 where
  pub limit : m.limit ≡ e.limit
  pub within : m.used ≤ e.limit
  pub some : 1 ≤ m.used
  pub above : fetches + d ≤ m.used

-- a sound state
pub record Sound (e : Env) (s : List ℕ) (d : ℕ) (r : Run) (b : Bufs) : Type 0 where
  pub sized : Sized e b
  pub tables : Good r.counts b.keys
  pub logged : Logged r.log b.log
  pub counted : Counted r.events r.posted r.keyed (effects_of (take r.log b.log))
  pub metered : Metered e d r.meter r.fetches
  pub depth : r.depth ≤ 1024
  pub replies : r.replies * 48 ≤ length s
  pub pc : r.pc < 4294967296
