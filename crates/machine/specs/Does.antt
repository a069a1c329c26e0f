-- What the code's answers say of a rule: one claim for every group of instructions.
use Rattle.std.specs.Prelude.{◌≡◌, true, false, List, ℕ, ◌+◌, ◌<◌, leb, length, Option, Some, None}
use Rattle.words.specs.Choice.{pick}
use Rattle.words.specs.Refusals.{refusal}
use Rattle.state.specs.Faults.{fault_refusal}
use Rattle.state.specs.declared.fault.Fault.{Fault}
use Rattle.state.specs.Regs.{set_reg}
use Rattle.state.specs.declared.regs.RegFile.{RegFile}
use Rattle.machine.specs.Machine.{Env, Machine, bare}
use Rattle.machine.specs.Steps.{Step, next, halt, fault}
use Rattle.machine.specs.Rules.{Rule, play}
use Rattle.machine.specs.Lent.{Bufs}
use Rattle.machine.specs.Sound.{machine_of, Sound}
use Rattle.machine.specs.RunParts.{with_used}
use Rattle.machine.specs.declared.run.Run.{Run}
use Rattle.machine.specs.declared.turn.Put.{Put}
use Rattle.machine.specs.declared.turn.Turn.{Turn}

-- a price paid, where the sum is within the limit
abbrev pub paid_by : Run → ℕ → Option Run
paid_by r p = pick (leb (r.meter.used + p) r.meter.limit) (Some (with_used r (r.meter.used + p))) None

-- ---- turns

abbrev pub sets : Run → (register value : ℕ) → Turn
sets r d v = record { run = r; put = record { d = d; v = v; e = 255; w = 0 }; fault = 0; halted = false }

abbrev pub goes : Run → Turn
goes r = sets r 255 0

abbrev pub stops : Run → Fault → Turn
stops r n = record { run = r; put = record { d = 255; v = 0; e = 255; w = 0 }; fault = (fault_refusal n).number; halted = false }

abbrev pub halts : Run → Turn
halts r = record { run = r; put = record { d = 255; v = 0; e = 255; w = 0 }; fault = 0; halted = true }

-- the registers after a turn
abbrev pub puts : Put → RegFile → RegFile
puts p f = set_reg (set_reg f p.d p.v) p.e p.w

-- a turn that leaves this machine, in a sound state
pub record Left (e : Env) (s : List ℕ) (d : ℕ) (t : Turn) (f : RegFile) (b : Bufs) (m : Machine) : Type 0 where
  pub is : machine_of s t.run (puts t.put f) b ≡ m
  pub sound : Sound e s d t.run b

-- t and the bytes b are what a step from registers f comes to
abbrev pub Turned : Env → List ℕ → ℕ → RegFile → Step → Turn → Bufs → Type 0
Turned e s d f (next m) t b = (t.fault ≡ 0) × (t.halted ≡ false) × Left e s d t f b m
Turned e s d f (halt m) t b = (t.fault ≡ 0) × (t.halted ≡ true) × Left e s d t f b m
Turned e s d f (fault x) t b = (x ≡ refusal t.fault 0) × (0 < t.fault)

-- the same of a rule, played under the limit with so much used and fetched
pub record Played (e : Env) (s : List ℕ) (d : ℕ) (f : RegFile) (used fetches : ℕ) (r : Rule) (t : Turn) (b : Bufs) : Type 0 where
  pub turned : Turned e s d f (play e.limit used fetches r) t b

-- what the code says of a rule: from registers g and bytes b, sound, a turn t that is put into f and leaves bytes a
abbrev pub DoesFrom : Env → List ℕ → ℕ → (Machine → Rule) → Run → (f g : RegFile) → (b a : Bufs) → Turn → Type 0
DoesFrom e s d rule r f g b a t = length f.r ≡ 16 → Sound e s d r b → Played e s d f r.meter.used r.fetches (rule (bare (machine_of s r g b))) t a

abbrev pub Does : Env → List ℕ → ℕ → (Machine → Rule) → Run → RegFile → (b a : Bufs) → Turn → Type 0
Does e s d rule r f b a t = DoesFrom e s d rule r f f b a t
