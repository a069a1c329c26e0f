-- A register operation as a turn.
use Rattle.std.specs.Prelude.{List, ℕ}
use Rattle.isa.specs.declared.instr.Instr.{Instr}
use Rattle.state.specs.Regs.{file, register_step}
use Rattle.machine.specs.Machine.{Env}
use Rattle.machine.specs.Turns.{operated}
use Rattle.machine.specs.Lent.{Bufs}
use Rattle.machine.specs.Does.{Does}
use Rattle.machine.specs.declared.run.Run.{Run}
use Rattle.machine.specs.declared.turn.Turn.{Turn}

abbrev pub Operates : Instr → Run → List ℕ → Turn → Type 0
Operates i r regs t = (e : Env) (s : List ℕ) (d : ℕ) (b : Bufs) → Does e s d (operated (register_step i (file regs))) r (file regs) b b t
