-- The finished steps of a run, in order (document 01, What every promise has to say: stated over the step rules).
use Rattle.std.specs.Prelude.{List, [], ◌∷◌, ℕ, zero, suc, ◌+◌, Result, Ok, Err}
use Rattle.isa.specs.Table.{price_of}
use Rattle.isa.specs.Forms.{form_of}
use Rattle.isa.specs.Codec.{decode_at}
use Rattle.isa.specs.declared.instr.Instr.{Instr}
use Rattle.machine.specs.Machine.{Env, Machine, pc_to, used_to, fetches_to}
use Rattle.machine.specs.Steps.{Step, next, halt, fault}
use Rattle.machine.specs.Turns.{turn_of}
use Rattle.isa.specs.declared.codec.DecodeError.{DecodeError}

-- a finished step: its instruction, and the machine that it steps from
pub record Took : Type 0 where
  pub instr : Instr
  pub on : Machine

-- an instruction of n bytes steps from m once its fetch is counted, its base price used and the next address set
abbrev pub fetched_from : Machine → Instr → (n : ℕ) → Machine
fetched_from m i n = pc_to (used_to (fetches_to m (suc m.fetches)) (m.used + price_of (form_of i).op)) (m.pc + n)

abbrev pub took : Machine → Instr → (n : ℕ) → Took
took m i n = record { instr = i; on = fetched_from m i n }

-- a turn's step, if it finishes, and those that follow
unfoldable pub steps_from : Result (Instr × ℕ) DecodeError → Machine → Step → (Machine → List Took) → List Took
steps_from (Err x) m s on = []
steps_from (Ok (i, n)) m (next p) on = took m i n ∷ on p
steps_from (Ok (i, n)) m (halt p) on = took m i n ∷ []
steps_from (Ok (i, n)) m (fault x) on = []

-- the finished steps of a run of at most so many turns
unfoldable pub steps_of : (turns : ℕ) → Env → Machine → List Took
steps_of zero e m = []
steps_of (suc n) e m = steps_from (decode_at e.code m.pc) m (turn_of e m) (steps_of n e)
