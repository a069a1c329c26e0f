-- What a rule is: conditions and prices, in order, on the way to the machine that it leaves; and how one is played (document 01, The run).
use Rattle.std.specs.Prelude.{Bool, ℕ, zero, suc, ◌+◌, leb}
use Rattle.words.specs.Choice.{pick}
use Rattle.words.specs.Refusals.{refusal}
use Rattle.machine.specs.Machine.{Env, Machine, metered}
use Rattle.machine.specs.Steps.{Step}
use Rattle.machine.specs.Steps as step

-- on or halt with a machine; on if an outcome is 0, else this fault; a price, else 1
pub data Rule : Type 0 where
  next : Machine → Rule
  halt : Machine → Rule
  pass : (outcome : ℕ) → Rule → Rule
  pay : (price : ℕ) → Rule → Rule

-- on with the rule, or this fault
abbrev pub need : Bool → ℕ → Rule → Rule
need ok n r = pass (pick ok 0 n) r

-- this fault
abbrev pub stop : ℕ → Machine → Rule
stop n m = pass n (next m)

-- the step that a rule comes to under a limit, with so much used and fetched
unfoldable pub play : (limit used fetches : ℕ) → Rule → Step
play l u n (next m) = step.next (metered m u n)
play l u n (halt m) = step.halt (metered m u n)
play l u n (pass zero r) = play l u n r
play l u n (pass (suc k) r) = step.fault (refusal (suc k) 0)
play l u n (pay p r) = pick (leb (u + p) l) (play l (u + p) n r) (step.fault (refusal 1 0))

-- a rule played from a machine
abbrev pub plays : Env → Machine → Rule → Step
plays e m r = play e.limit m.used m.fetches r

-- its prices, summed
unfoldable pub bill : Rule → ℕ
bill (next m) = 0
bill (halt m) = 0
bill (pass k r) = bill r
bill (pay p r) = p + bill r

-- the machine at its end
unfoldable pub left_by : Rule → Machine
left_by (next m) = m
left_by (halt m) = m
left_by (pass k r) = left_by r
left_by (pay p r) = left_by r
