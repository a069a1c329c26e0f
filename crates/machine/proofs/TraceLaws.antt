-- A run, step by step: its steps, and how it ends. Assumes nothing.
use Rattle.std.specs.Prelude.{◌≡◌, Bool, true, false, List, [], ◌∷◌, ℕ, zero, suc, ◌+◌, ◌-◌, ◌≤◌, ◌<◌, leb, ltb, Result, Ok, Err}
use Rattle.std.proofs.Math.Path.{refl}
use Rattle.std.proofs.Common.{ap, ◌∙◌, arith, leb-true}
use Rattle.words.specs.Choice.{pick}
use Rattle.isa.specs.Table.{price_of}
use Rattle.isa.specs.Forms.{form_of}
use Rattle.isa.specs.Codec.{decode_at}
use Rattle.isa.specs.Answers.{decode_error}
use Rattle.words.specs.Refusals.{refusal}
use Rattle.words.specs.declared.refusal.Refusal.{Refusal}
use Rattle.isa.specs.declared.instr.Instr.{Instr}
use Rattle.isa.specs.declared.codec.DecodeError.{DecodeError}
use Rattle.isa.specs.declared.codec.DecodeError.TheVariants as error
use Rattle.machine.specs.Machine.{Env, Machine, fetches_to}
use Rattle.machine.specs.Steps.{Step, next, halt, fault}
use Rattle.machine.specs.Actions.{action_of}
use Rattle.machine.specs.Rules.{need, play, bill}
use Rattle.machine.specs.Turns.{rule_of, step_of, fetch_of, turn_of, End, halted, faulted, end_of, run_of}
use Rattle.machine.proofs.RuleLaws.{Passed, AtEnd, Keeps, keeps}
use Rattle.machine.specs.KeysLaws.{keys_after, keys_left}
use Rattle.machine.specs.CostLaws.{step_costs}
use Rattle.machine.specs.Trace.{Took, fetched_from, took, steps_from, steps_of}

-- the base price used, of an instruction
abbrev pub base_paid : Machine → Instr → ℕ
base_paid m i = m.used + price_of (form_of i).op

-- a turn from m that finished its step and left p: every condition met, one more fetched, base price and bill used and that within the limit
pub record Finished (e : Env) (m : Machine) (i : Instr) (n : ℕ) (s : Step) (p : Machine) : Type 0 where
  pub step : step_of e i (fetched_from m i n) ≡ s
  pub passed : Passed (rule_of e i (fetched_from m i n))
  pub fetches : p.fetches ≡ suc m.fetches
  pub used : p.used ≡ base_paid m i + bill (rule_of e i (fetched_from m i n))
  pub within : p.used ≤ e.limit
  pub keys : p.keys ≡ keys_after e (action_of i) (fetched_from m i n)

finished : (e : Env) (m : Machine) (i : Instr) (n : ℕ) (s : Step) (p : Machine) → base_paid m i ≤ e.limit → step_of e i (fetched_from m i n) ≡ s
    → AtEnd e.limit (base_paid m i) (suc m.fetches) (rule_of e i (fetched_from m i n)) p → Finished e m i n s p
unfolding rule_of
finished e m i n s p l q k =
    let u : p.used ≡ base_paid m i + bill (rule_of e i (fetched_from m i n)) = ap (λ (x : Machine). x.used) k.is in
    record {
      step = q;
      passed = k.passed;
      fetches = ap (λ (x : Machine). x.fetches) k.is;
      used = u;
      within = rw u (k.within l);
      keys = ap (λ (x : Machine). x.keys) k.is ∙ keys_left e (fetched_from m i n) i (action_of i);
    }

-- ---- a turn

pub data TurnEnds (e : Env) (m : Machine) : Result (Instr × ℕ) DecodeError → Step → Type 0 where
  unread : (x : DecodeError) (w : Refusal) → 1 ≤ w.number → TurnEnds e m (Err x) (fault w)
  faulting : (i : Instr) (n : ℕ) (w : Refusal) → 1 ≤ w.number → TurnEnds e m (Ok (i, n)) (fault w)
  halting : (i : Instr) (n : ℕ) (p : Machine) → Finished e m i n (halt p) p → TurnEnds e m (Ok (i, n)) (halt p)
  going : (i : Instr) (n : ℕ) (p : Machine) → Finished e m i n (next p) p → TurnEnds e m (Ok (i, n)) (next p)

refusal_numbered : (x : DecodeError) → 1 ≤ (decode_error x).number
refusal_numbered (error.UnknownOpcode b) = omega arith
refusal_numbered (error.BadRegister b) = omega arith
refusal_numbered error.Truncated = omega arith

module _ (e : Env) (m : Machine) where
  -- an instruction's price, its next address, its step
  instructed : (i : Instr) (n : ℕ) → TurnEnds e m (Ok (i, n)) (fetch_of e (Ok (i, n)) (fetches_to m (suc m.fetches)))
  unfolding fetch_of step_of rule_of play
  instructed i n = at_price (leb (base_paid m i) e.limit) refl (ltb (m.pc + n) 4294967296)
    where
      stepped : base_paid m i ≤ e.limit → (s : Step) → step_of e i (fetched_from m i n) ≡ s →
          Keeps e.limit (base_paid m i) (suc m.fetches) (rule_of e i (fetched_from m i n)) s → TurnEnds e m (Ok (i, n)) s
      stepped l (next p) q k = going i n p (finished e m i n (next p) p l q k)
      stepped l (halt p) q k = halting i n p (finished e m i n (halt p) p l q k)
      stepped l (fault w) q h = faulting i n w h

      at_price : (a : Bool) → leb (base_paid m i) e.limit ≡ a → (b : Bool)
          → TurnEnds e m (Ok (i, n)) (pick a (play e.limit (base_paid m i) (suc m.fetches) (need b 7 (rule_of e i (fetched_from m i n)))) (fault (refusal 1 0)))
      at_price true l true =
          stepped (leb-true (base_paid m i) e.limit l) (step_of e i (fetched_from m i n)) refl (keeps e.limit (base_paid m i) (suc m.fetches) (rule_of e i (fetched_from m i n)))
      at_price true l false = faulting i n (refusal 7 0) (omega arith)
      at_price false l b = faulting i n (refusal 1 0) (omega arith)

  pub turned : TurnEnds e m (decode_at e.code m.pc) (turn_of e m)
  unfolding turn_of fetch_of
  turned = go (decode_at e.code m.pc)
    where
      go : (d : Result (Instr × ℕ) DecodeError) → TurnEnds e m d (fetch_of e d (fetches_to m (suc m.fetches)))
      go (Err x) = unread x (decode_error x) (refusal_numbered x)
      go (Ok (i, n)) = instructed i n

-- ---- a run

-- from m it takes these steps and ends so
pub data Traced (e : Env) : Machine → List Took → End → Type 0 where
  faults : (m : Machine) (w : Refusal) → 1 ≤ w.number → Traced e m [] (faulted w (suc m.fetches))
  halts : (m p : Machine) (i : Instr) (n : ℕ) → Finished e m i n (halt p) p → Traced e m (took m i n ∷ []) (halted p)
  goes : (m p : Machine) (i : Instr) (n : ℕ) (ts : List Took) (end : End) → Finished e m i n (next p) p → Traced e p ts end → Traced e m (took m i n ∷ ts) end

-- a step that goes on uses 1 or more, and stays within the limit
pub goes_uses : (e : Env) (m p : Machine) (i : Instr) (n : ℕ) → Finished e m i n (next p) p → (m.used < p.used) × (p.used ≤ e.limit)
goes_uses e m p i n f = (omega (arith, f.used, step_costs e i (fetched_from m i n) p f.step), f.within)

-- L - D + 1 turns are enough: every run ends by a turn of its own
pub runs : (n : ℕ) (e : Env) (m : Machine) → e.limit - m.used < n → Traced e m (steps_of n e m) (run_of n e m)
unfolding run_of steps_of steps_from end_of
runs zero e m h = absurd (omega (arith, h))
runs (suc n) e m h = go (decode_at e.code m.pc) (turn_of e m) (turned e m) (λ p. runs n e p)
  where
    go : (d : Result (Instr × ℕ) DecodeError) (s : Step) → TurnEnds e m d s → ((p : Machine) → e.limit - p.used < n → Traced e p (steps_of n e p) (run_of n e p)) →
        Traced e m (steps_from d m s (steps_of n e)) (end_of s (suc m.fetches) (run_of n e))
    go d s (unread x w z) more = faults m w z
    go d s (faulting i j w z) more = faults m w z
    go d s (halting i j p f) more = halts m p i j f
    go d s (going i j p f) more = let u = goes_uses e m p i j f in goes m p i j (steps_of n e p) (run_of n e p) f (more p (omega (arith, h, u.0, u.1)))
