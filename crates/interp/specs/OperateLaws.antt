-- Each outcome of a register operation as a turn. Assumes nothing.
use Rattle.std.specs.Prelude.{◌≡◌, false, List, None, Result, Ok, Err, Some}
use Rattle.std.proofs.Math.Path.{refl, ap}
use Rattle.std.proofs.Common.{sym, ◌∙◌, arith}
use Prim.Native.Nat.{ℕ, ◌^◌, ◌<◌}
use Rattle.words.specs.declared.product.Wide.{Wide}
use Rattle.isa.specs.declared.instr.Instr.{Instr}
use Rattle.state.specs.Regs.{file, set_reg, applied, register_step}
use Rattle.state.specs.Faults.{fault_refusal}
use Rattle.state.specs.FaultTheorems.{Plain, step_plain}
use Rattle.state.specs.RegsLaws.{set_words}
use Rattle.state.specs.declared.regs.Outcome.{Outcome}
use Rattle.state.specs.declared.regs.Outcome.TheVariants as outcome
use Rattle.machine.specs.Rules.{play}
use Rattle.machine.specs.Sound.{machine_of}
use Rattle.machine.specs.Does.{sets, stops}
use Rattle.machine.proofs.TurnLaws.{pass_on, pass_stops, sets_next}
use Rattle.machine.specs.declared.run.Run.{Run}
use Rattle.state.specs.declared.fault.Fault.{Fault}
use Rattle.interp.specs.Operated.{Operates}

module _ (i : Instr) (r : Run) (regs : List ℕ) (o : Result Outcome Fault) (h : applied (file regs) o ≡ register_step i (file regs)) where
  pub operate_put : (d v : ℕ) → o ≡ Ok (outcome.Put d v) → Operates i r regs (sets r d v)
  unfolding machine_of
  operate_put d v k e s a b l so =
      let g : applied (file regs) (Ok (outcome.Put d v)) ≡ register_step i (file regs) = ap (applied (file regs)) (sym k) ∙ h in
      rw (← g) (pass_on refl (sets_next d v l refl so))

  pub operate_wide : (lo hi : ℕ) (w : Wide) → w.lo < 2 ^ 64 → o ≡ Ok (outcome.PutWide lo hi w)
      → Operates i r regs (record { run = r; put = record { d = lo; v = w.lo; e = hi; w = w.hi }; fault = 0; halted = false })
  unfolding machine_of play
  operate_wide lo hi w f k e s a b l so =
      let g : applied (file regs) (Ok (outcome.PutWide lo hi w)) ≡ register_step i (file regs) = ap (applied (file regs)) (sym k) ∙ h in
      let q = set_words (file regs) (set_reg (file regs) lo w.lo) (set_reg (set_reg (file regs) lo w.lo) hi w.hi) lo hi w.lo w.hi f refl refl in
      rw (← g) (record { turned = (refl, refl, record { is = rw q; sound = so }) })

  pub operate_fault : (n : Fault) → o ≡ Err n → Operates i r regs (stops r n)
  unfolding machine_of
  operate_fault n k e s a b l so =
      let g : applied (file regs) (Err n) ≡ register_step i (file regs) = ap (applied (file regs)) (sym k) ∙ h in
      let p : Plain (Some n) = rw (← g) at (step_plain i (file regs)) in
      rw (← g) (pass_stops n (fault_refusal n).number p.0 (λ z. omega (arith, p.1, z)))
