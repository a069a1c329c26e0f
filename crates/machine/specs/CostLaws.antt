-- A step that goes on has a base price. Assumes nothing.
use Rattle.std.specs.Prelude.{◌≡◌, ℕ, ◌≤◌}
use Rattle.std.proofs.Common.{arith}
use Rattle.isa.specs.Table.{price_of}
use Rattle.isa.specs.Forms.{form_of}
use Rattle.isa.specs.PriceLaws.{priced}
use Rattle.isa.specs.declared.instr.Instr.{Instr}
use Rattle.isa.specs.declared.instr.Instr.TheVariants as instr
use Rattle.machine.specs.Machine.{Env, Machine}
use Rattle.machine.specs.Steps.{next}
use Rattle.machine.specs.Rules.{play}
use Rattle.machine.specs.Turns.{act_of, rule_of, step_of}
use Rattle.machine.specs.Actions.{action_of}

-- Halt's step does not
halt_ends : (e : Env) (m p : Machine) → step_of e instr.Halt m ≡ next p → ⊥
unfolding step_of rule_of act_of action_of play
halt_ends e m p h = let z : ◌≡◌ {A = ℕ} 0 1 = cc in omega arith

pub step_costs : (e : Env) (i : Instr) (m p : Machine) → step_of e i m ≡ next p → 1 ≤ price_of (form_of i).op
step_costs e i m p h = priced i (λ x. halt_ends e m p (rw x at h))
