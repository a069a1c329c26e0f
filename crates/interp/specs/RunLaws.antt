-- The loop of a run: what is left to run decides, and each way out of a turn is the machine's. Assumes nothing.
use Rattle.std.proofs.Math.Path.{◌≡◌, refl, sym, ap}
use Rattle.std.proofs.Common.{◌∙◌}
use Rattle.std.specs.Prelude.{true, false, List, length, set, ℕ, Result, Ok, Err, Some, None}
use Prim.Native.Nat.{ℕ, suc, ◌+◌, ◌-◌, ◌≤◌, ◌<◌}
use native.Mathlib.Omega.{arith}
use Rattle.std.proofs.Math.ListN.{length-set}
use Rattle.std.proofs.lemmas.List.{length-replicate}
use Rattle.words.specs.Refusals.{refusal}
use Rattle.isa.specs.Table.{price_of}
use Rattle.isa.specs.Forms.{form_of}
use Rattle.isa.specs.Codec.{decode_at}
use Rattle.isa.specs.declared.instr.Instr.{Instr}
use Rattle.state.specs.Regs.{cleared}
use Rattle.state.specs.declared.regs.RegFile.{RegFile}
use Rattle.machine.specs.Machine.{Env, Machine}
use Rattle.machine.specs.Steps.{Step, next, halt, fault}
use Rattle.machine.specs.Turns.{rule_of, step_of, turn_of, end_of, run_of}
use Rattle.machine.proofs.RuleLaws.{Keeps, keeps}
use Rattle.machine.specs.CostLaws.{step_costs}
use Rattle.machine.specs.Lent.{Bufs}
use Rattle.machine.specs.Sound.{machine_of, Sound}
use Rattle.machine.specs.SoundLaws.{fetches_sound}
use Rattle.machine.specs.Does.{puts, Turned}
use Rattle.machine.specs.declared.run.Run.{Run}
use Rattle.machine.specs.declared.turn.Turn.{Turn}
use Rattle.state.specs.Faults.{fault_refusal}
use Rattle.state.specs.declared.fault.Fault.{Fault}
use Rattle.interp.specs.Fetched.{instruction_in, StepsFrom, Fetches}
use Rattle.interp.specs.Ties.{GivenParts, Ready, Steps}
use Rattle.interp.specs.Runs.{Begun, Starts, EndsAs, Runs}
use Rattle.isa.specs.declared.codec.DecodeError.{DecodeError}

-- as many turns as the limit allows from a run's start
abbrev pub turns_of : Env → Run → ℕ
turns_of e r = suc (e.limit - r.meter.used)

-- the instruction that a fetch takes out of what was decoded at the run's place, and the run that it steps from
pub record Taken (code : List ℕ) (r : Run) (i : Instr) (q : Run) : Type 0 where
  pub out : Result (Instr × ℕ) DecodeError
  pub read : out ≡ decode_at code r.pc
  pub fetched : Fetches out r (Ok q)
  pub is_in : i ≡ instruction_in out

-- between turns: a sound state, sixteen registers, and the rest of the run is the whole run's
pub record Going (e : Env) (p : GivenParts) (r₀ : Run) (b₀ : Bufs) (r : Run) (f : RegFile) (b : Bufs) : Type 0 where
  pub sound : Sound e p.replies r₀.meter.used r b
  pub regs : length f.r ≡ 16
  pub same : run_of (turns_of e r₀) e (machine_of p.replies r₀ cleared b₀) ≡ run_of (turns_of e r₀ - r.fetches) e (machine_of p.replies r f b)

pub record Looping (p : GivenParts) (r₀ : Run) (b₀ : Bufs) (r : Run) (f : RegFile) (b : Bufs) : Type 0 where
  pub going : (e : Env) → Begun e p r₀ b₀ → Going e p r₀ b₀ r f b

pub loop_begins : {p : GivenParts} {r : Run} {b : Bufs} {f : RegFile} → f ≡ cleared → Looping p r b r f b
loop_begins {p} {r} {b} c = rw c (record {
  going = λ e g.
      let z : turns_of e r - r.fetches ≡ turns_of e r = omega (arith, g.none) in
      record { sound = g.sound; regs = length-replicate {A = ℕ} 16 0; same = ap (λ (k : ℕ). run_of k e (machine_of p.replies r cleared b)) (sym z) };
})

-- a sound state with less used above the fetches
lower : (e : Env) (s : List ℕ) (d d' : ℕ) (r : Run) (b : Bufs) → Sound e s d r b → d' ≤ d → Sound e s d' r b
lower e s d d' r b so h = fetches_sound so r.fetches d' (omega (arith, so.metered.above))

module _ {p : GivenParts} {r₀ : Run} {b₀ : Bufs} {r : Run} {f : RegFile} {b : Bufs} (x : Looping p r₀ b₀ r f b) where
  -- there is a turn left
  turns_left : (e : Env) (g : Begun e p r₀ b₀) → (r.fetches < turns_of e r₀) × (1 ≤ r₀.meter.used)
  turns_left e g =
      let m = (x.going e g).sound.metered in
      (omega (arith, m.above, m.within), g.sound.metered.some)

  pub fetch_fits : Starts p r₀ b₀ → r.fetches < r.meter.used
  fetch_fits s = let m = (x.going s.env s.begun).sound.metered in omega (arith, m.above, s.begun.sound.metered.some)

  -- the run is what its next turn makes of it
  one_turn : (e : Env) (g : Begun e p r₀ b₀) (t : Step) → turn_of e (machine_of p.replies r f b) ≡ t
      → run_of (turns_of e r₀) e (machine_of p.replies r₀ cleared b₀) ≡ end_of t (suc r.fetches) (run_of (turns_of e r₀ - suc r.fetches) e)
  unfolding run_of machine_of
  one_turn e g t q =
      let (l, _) = turns_left e g in
      let z : turns_of e r₀ - r.fetches ≡ suc (turns_of e r₀ - suc r.fetches) = omega arith in
      (x.going e g).same ∙ ap (λ (k : ℕ). run_of k e (machine_of p.replies r f b)) z ∙ ap (λ (y : Step). end_of y (suc r.fetches) (run_of (turns_of e r₀ - suc r.fetches) e)) q

  -- what is used above the fetches, one less while an instruction is fetched
  d : ℕ
  d = r₀.meter.used - 1

  before : (e : Env) → Begun e p r₀ b₀ → Sound e p.replies (suc d) r b
  unfolding d
  before e g =
      let (_, h) = turns_left e g in
      let z : r₀.meter.used ≡ suc (r₀.meter.used - 1) = omega arith in
      rw z at (x.going e g).sound

  -- what was decoded there, as the environment has it
  decoded_in : (o : Result (Instr × ℕ) DecodeError) → o ≡ decode_at p.code r.pc → (e : Env) → Begun e p r₀ b₀ → o ≡ decode_at e.code r.pc
  decoded_in o c e g = c ∙ ap (λ (l : List ℕ). decode_at l r.pc) (sym g.suits.code)

  pub loop_refused : {o : Result (Instr × ℕ) DecodeError} → o ≡ decode_at p.code r.pc → (w : Fault) {k : ℕ} → Fetches o r (Err w) → k ≡ r.fetches + 1
      → Runs p r₀ b₀ (record { end = fault_refusal w; fetches = k; run = r; file = f }) b
  unfolding end_of
  loop_refused {o} read w {k} told c e g =
      let (q, l) = told e p.replies d f b (decoded_in o read e g) (before e g) in
      let z : k ≡ suc r.fetches = omega (arith, c) in
      rw (one_turn e g (fault (fault_refusal w)) q) (refl, l, z)

  -- an instruction was fetched
  module _ {i : Instr} {q : Run} (taken : Taken p.code r i q) where
    at : (e : Env) → Begun e p r₀ b₀ → StepsFrom e p.replies d f b (suc r.fetches) (turn_of e (machine_of p.replies r f b)) i q
    at e g = rw taken.is_in (taken.fetched e p.replies d f b (decoded_in taken.out taken.read e g) (before e g))

    pub step_ready : Starts p r₀ b₀ → Ready p q b
    step_ready s = let y = at s.env s.begun in record { env = s.env; above = d + price_of (form_of i).op; suits = s.begun.suits; sound = y.1 }

    -- and stepped with
    module _ {t : Turn} {a : Bufs} (st : Steps p i q f.r b a t) where
      abbrev Came : Env → Step → Type 0
      Came e y = Turned e p.replies (d + price_of (form_of i).op) f y t a

      came : (e : Env) → Begun e p r₀ b₀ → Came e (step_of e i (machine_of p.replies q f b))
      unfolding step_of rule_of machine_of
      came e g = (st e (d + price_of (form_of i).op) g.suits (x.going e g).regs (at e g).1).turned

      pub loop_faults : (t.fault ≡ 0 → ⊥) → (y : Run) → Runs p r₀ b₀ (record { end = refusal t.fault 0; fetches = q.fetches; run = y; file = f }) a
      unfolding end_of
      loop_faults h y e g = go (step_of e i (machine_of p.replies q f b)) (at e g).0 (came e g)
        where
          go : (z : Step) → turn_of e (machine_of p.replies r f b) ≡ z → Came e z
              → EndsAs e p.replies (run_of (turns_of e r₀) e (machine_of p.replies r₀ cleared b₀)) (record { end = refusal t.fault 0; fetches = q.fetches; run = y; file = f }) a
          go (next m) z c = absurd (h c.0)
          go (halt m) z c = absurd (h c.0)
          go (fault w) z c = rw (one_turn e g (fault w) z) (sym c.0, rw c.0 c.1, (at e g).2)

      pub loop_halts : t.fault ≡ 0 → t.halted ≡ true → {w : RegFile} → w ≡ puts t.put f → Runs p r₀ b₀ (record { end = refusal 0 0; fetches = t.run.fetches; run = t.run; file = w }) a
      unfolding machine_of end_of
      loop_halts h k {w} u e g = go (step_of e i (machine_of p.replies q f b)) (at e g).0 (came e g)
        where
          go : (z : Step) → turn_of e (machine_of p.replies r f b) ≡ z → Came e z
              → EndsAs e p.replies (run_of (turns_of e r₀) e (machine_of p.replies r₀ cleared b₀)) (record { end = refusal 0 0; fetches = t.run.fetches; run = t.run; file = w }) a
          go (next m) z c = let y = c.1 in absurd (let o : ◌≡◌ {A = ℕ} 0 1 = cc in omega arith)
          go (halt m) z c =
              let l = c.2 in
              rw (one_turn e g (halt m) z)
              (record {
                end = refl;
                fetches = ap (λ (y : Machine). y.fetches) l.is;
                is = rw u l.is;
                sound = lower e p.replies (d + price_of (form_of i).op) 0 t.run a l.sound (omega arith);
              })
          go (fault y) z c = absurd (omega (arith, c.1, h))

      -- on to the next turn
      record Went (e : Env) : Type 0 where
        machine : Machine
        is : machine_of p.replies t.run (puts t.put f) a ≡ machine
        sound : Sound e p.replies (d + price_of (form_of i).op) t.run a
        turn : turn_of e (machine_of p.replies r f b) ≡ next machine
        costs : 1 ≤ price_of (form_of i).op
        counts : t.run.fetches ≡ suc r.fetches

      went : t.fault ≡ 0 → t.halted ≡ false → (e : Env) → Begun e p r₀ b₀ → Went e
      unfolding machine_of step_of
      went h k e g =
          go (step_of e i (machine_of p.replies q f b)) refl (at e g).0 (came e g) (keeps e.limit q.meter.used q.fetches (rule_of e i (machine_of p.replies q f b)))
        where
          go : (z : Step) → step_of e i (machine_of p.replies q f b) ≡ z → turn_of e (machine_of p.replies r f b) ≡ z → Came e z →
              Keeps e.limit q.meter.used q.fetches (rule_of e i (machine_of p.replies q f b)) z → Went e
          go (next m) y z c n =
              let l = c.2 in
              record {
                machine = m;
                is = l.is;
                sound = l.sound;
                turn = z;
                costs = step_costs e i (machine_of p.replies q f b) m y;
                counts = ap (λ (o : Machine). o.fetches) l.is ∙ ap (λ (o : Machine). o.fetches) n.is ∙ (at e g).2;
              }
          go (halt m) y z c n = let o = c.1 in absurd (let w : ◌≡◌ {A = ℕ} 0 1 = cc in omega arith)
          go (fault o) y z c n = absurd (omega (arith, c.1, h))

      pub loop_goes : t.fault ≡ 0 → t.halted ≡ false → {w : RegFile} → w ≡ puts t.put f → Looping p r₀ b₀ t.run w a
      unfolding d end_of
      loop_goes h k u = rw u (record {
        going = λ e g.
            let o = went h k e g in
            let (_, some) = turns_left e g in
            record {
              sound = lower e p.replies (d + price_of (form_of i).op) r₀.meter.used t.run a o.sound (omega (arith, o.costs));
              regs = length-set (set f.r t.put.d t.put.v) t.put.e t.put.w ∙ length-set f.r t.put.d t.put.v ∙ (x.going e g).regs;
              same = one_turn e g (next o.machine) o.turn ∙ (λ j. run_of (turns_of e r₀ - sym o.counts j) e (sym o.is j));
            };
      })

      pub loop_shrinks : Starts p r₀ b₀ → t.fault ≡ 0 → t.halted ≡ false →
          suc (r₀.meter.limit - r₀.meter.used) - t.run.fetches < suc (r₀.meter.limit - r₀.meter.used) - r.fetches
      loop_shrinks s h k =
          let o = went h k s.env s.begun in
          let (l, _) = turns_left s.env s.begun in
          let e = s.begun.sound.metered.limit in
          omega (arith, o.counts, l, e)
