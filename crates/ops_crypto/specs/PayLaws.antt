-- A rule that comes to a price and the rest: the run that paid goes on, and 1 where it cannot. Assumes nothing.
use Rattle.std.specs.Prelude.{◌≡◌, List, ℕ, Option, Some, None}
use Rattle.state.specs.declared.regs.RegFile.{RegFile}
use Rattle.machine.specs.Machine.{Env, Machine, bare}
use Rattle.machine.specs.Rules.{Rule, pay, play}
use Rattle.machine.specs.Lent.{Bufs}
use Rattle.machine.specs.Sound.{machine_of, Sound}
use Rattle.machine.specs.Does.{paid_by, stops, Played, Does}
use Rattle.machine.proofs.TurnLaws.{paid_on, paid_off}
use Rattle.machine.specs.declared.run.Run.{Run}
use Rattle.machine.specs.declared.turn.Turn.{Turn}
use Rattle.state.specs.declared.fault.Fault.TheVariants.{OutOfMeter}

pub record Priced (e : Env) (s : List ℕ) (d : ℕ) (f : RegFile) (r : Run) (b : Bufs) (rule rest : Machine → Rule) (x : Option Run) : Type 0 where
  pub on : (q : Run) (a : Bufs) (t : Turn) → x ≡ Some q → Does e s d rest q f b a t → Does e s d rule r f b a t
  pub off : (a : Bufs) (t : Turn) → x ≡ None → t ≡ stops r OutOfMeter → Does e s d rule r f b a t

-- two rules whose plays come to the same here; so may a rule be under a limit alone
plays_as : {e : Env} {s : List ℕ} {d : ℕ} {f : RegFile} {u n : ℕ} {r q : Rule} {t : Turn} {b : Bufs} → play e.limit u n q ≡ play e.limit u n r →
    Played e s d f u n r t b → Played e s d f u n q t b
plays_as {e} {s} {d} {f} {u} {n} {r} {q} {t} {b} h x = record { turned = rw h x.turned }

module _ {e : Env} {s : List ℕ} {d : ℕ} {f : RegFile} {r : Run} {b : Bufs} (rule rest : Machine → Rule) (p : ℕ) {x : Option Run} (h : x ≡ paid_by r p) where
  pub priced : (Sound e s d r b → play e.limit r.meter.used r.fetches (rule (bare (machine_of s r f b))) ≡ play e.limit r.meter.used r.fetches (pay p (rest (bare (machine_of s r f b)))))
      → Priced e s d f r b rule rest x
  priced is = record {
    on = λ q a t j y sixteen so. plays_as (is so) (paid_on f so h rest j (y sixteen));
    off = λ a t j w sixteen so. rw w (plays_as (is so) (paid_off f so h rest j));
  }
