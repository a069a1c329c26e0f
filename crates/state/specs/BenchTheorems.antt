-- What is refused on the bench, whatever its number, leaves the file as it was. Assumes nothing.
use Rattle.std.specs.Prelude.{Bool, true, false, refl, ℕ, Option, Some, None}
use Rattle.words.specs.Choice.{pick}
use Rattle.isa.specs.declared.instr.Instr.{Instr}
use Rattle.isa.specs.Forms.{form_of}
use Rattle.isa.specs.Kinds.{register_op}
use Rattle.isa.specs.Codec.{first_bad}
use Rattle.state.specs.declared.regs.RegFile.{RegFile}
use Rattle.state.specs.Regs.{FaultKeeps, refused, register_step}
use Rattle.state.specs.RegsTheorems.{step_keeps}
use Rattle.state.specs.declared.fault.Fault.TheVariants.{NotRegister}
use Rattle.state.specs.Bench.{unless_bad_register, bench_of}

pub bench_keeps : (i : Instr) (f : RegFile) → FaultKeeps f (bench_of i f)
bench_keeps i f = go (register_op (form_of i).op) (first_bad (form_of i).regs)
  where
    go : (t : Bool) (b : Option ℕ) → FaultKeeps f (pick t (unless_bad_register b f (register_step i f)) (refused f NotRegister))
    go true (Some r) = λ n. refl
    go true None = step_keeps i f
    go false b = λ n. refl
