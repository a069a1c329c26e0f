-- Demand 3, what a run counts and uses: fetches are its steps, used is what it began with and its steps' prices. Assumes nothing.
use Rattle.std.specs.Prelude.{◌≡◌, List, ◌∷◌, ℕ, suc, ◌+◌, ◌-◌, ◌≤◌, length}
use Rattle.std.proofs.Common.{arith}
use Rattle.machine.specs.Machine.{Env, Machine}
use Rattle.machine.specs.Turns.{End, halted, faulted}
use Rattle.machine.specs.Trace.{Took, took}
use Rattle.promises.specs.Accounts.{price_in, bill_of}
use Rattle.machine.proofs.TraceLaws.{Traced, goes_uses}
use Rattle.machine.proofs.TraceLaws.Traced.{faults, halts, goes}

-- a machine that halts after steps from m
pub record HaltedAfter (e : Env) (m : Machine) (ts : List Took) (p : Machine) : Type 0 where
  pub fetches : p.fetches ≡ m.fetches + length ts
  pub used : p.used ≡ m.used + bill_of e ts
  pub within : p.used ≤ e.limit

-- a fault after steps from m: its number is not 0, and one more was fetched than finished
pub record Faulted (m : Machine) (ts : List Took) (number fetches : ℕ) : Type 0 where
  pub numbered : 1 ≤ number
  pub fetched : fetches ≡ suc (m.fetches + length ts)

abbrev pub RunCounts : Env → Machine → List Took → End → Type 0
RunCounts e m ts (halted p) = HaltedAfter e m ts p
RunCounts e m ts (faulted w f) = Faulted m ts w.number f

pub run_counts : (e : Env) (m : Machine) (ts : List Took) (end : End) → Traced e m ts end → RunCounts e m ts end
unfolding bill_of price_in
run_counts e m ts end (faults n w h) = record { numbered = h; fetched = omega arith }
run_counts e m ts end (halts n p i j f) = record { fetches = omega (arith, f.fetches); used = omega (arith, f.used); within = f.within }
run_counts e m ts end (goes n p i j us x f r) = go x (run_counts e p us x r)
  where
    go : (x : End) → RunCounts e p us x → RunCounts e n (took n i j ∷ us) x
    go (halted q) h = record { fetches = omega (arith, h.fetches, f.fetches); used = omega (arith, h.used, f.used); within = h.within }
    go (faulted w g) h = record { numbered = h.numbered; fetched = omega (arith, h.fetched, f.fetches) }

unfoldable pub fetches_of : End → ℕ
fetches_of (halted p) = p.fetches
fetches_of (faulted w f) = f

-- a step that goes on uses 1 or more of what is left, and the last fetch may end the run
pub run_fetches : (e : Env) (m : Machine) (ts : List Took) (end : End) → Traced e m ts end → fetches_of end ≤ m.fetches + suc (e.limit - m.used)
unfolding fetches_of
run_fetches e m ts end (faults n w h) = omega arith
run_fetches e m ts end (halts n p i j f) = omega (arith, f.fetches)
run_fetches e m ts end (goes n p i j us x f r) = let u = goes_uses e n p i j f in omega (arith, run_fetches e p us x r, f.fetches, u.0, u.1)
