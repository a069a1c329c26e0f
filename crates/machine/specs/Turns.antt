-- A turn fetches, prices and steps; a run goes from turn to turn (document 01, The run: Fetch).
use Rattle.std.specs.Prelude.{ℕ, zero, suc, ◌+◌, ltb, Result, Ok, Err}
use Rattle.isa.specs.Table.{price_of}
use Rattle.isa.specs.Forms.{form_of}
use Rattle.isa.specs.Codec.{decode_at}
use Rattle.isa.specs.Answers.{decode_error}
use Rattle.words.specs.Refusals.{refusal}
use Rattle.words.specs.declared.refusal.Refusal.{Refusal}
use Rattle.isa.specs.declared.instr.Instr.{Instr}
use Rattle.state.specs.Faults.{fault_number}
use Rattle.state.specs.Regs as regs
use Rattle.state.specs.declared.regs.Stepped.{Stepped}
use Rattle.machine.specs.Machine.{Env, Machine, regs_to, pc_to, fetches_to, bare}
use Rattle.machine.specs.Steps.{Step}
use Rattle.machine.specs.Steps as step
use Rattle.machine.specs.Rules.{Rule, next, halt, pass, need, pay, plays}
use Rattle.machine.specs.Actions.{action_of}
use Rattle.machine.specs.MoveRules.{move_of}
use Rattle.machine.specs.JumpRules.{jump_of}
use Rattle.machine.specs.StorageRules.{access_of}
use Rattle.machine.specs.PostRules.{post_of}
use Rattle.machine.specs.CryptoRules.{hash_of, check_of}
use Rattle.machine.specs.declared.action.Action.{Action}
use Rattle.machine.specs.declared.action.Action.TheVariants as action
use Rattle.isa.specs.declared.codec.DecodeError.{DecodeError}

-- a register operation, or its fault
abbrev pub operated : Stepped → Machine → Rule
operated s m = pass (fault_number s.fault) (next (regs_to m s.file))

unfoldable pub act_of : Env → Instr → Action → Machine → Rule
act_of e i action.Halt m = halt m
act_of e i action.Nop m = next m
act_of e i action.Registers m = operated (regs.register_step i m.regs) m
act_of e i (action.Moves o) m = move_of e o m
act_of e i (action.Jumps o) m = jump_of e o m
act_of e i (action.Storage o) m = access_of e o m
act_of e i (action.Posts o) m = post_of e o m
act_of e i (action.Hash a b c) m = hash_of e a b c m
act_of e i (action.Checks o) m = check_of e o m

-- an instruction's rule, and its step
unfoldable pub rule_of : Env → Instr → Machine → Rule
rule_of e i m = act_of e i (action_of i) (bare m)

unfoldable pub step_of : Env → Instr → Machine → Step
step_of e i m = plays e m (rule_of e i m)

-- the base price, then the next address below 2^32 (7), then the instruction
unfoldable pub fetch_of : Env → Result (Instr × ℕ) DecodeError → Machine → Step
fetch_of e (Err x) m = step.fault (decode_error x)
fetch_of e (Ok (i, n)) m =
    plays e m
    (pay (price_of (form_of i).op)
    (need (ltb (m.pc + n) 4294967296) 7
    (rule_of e i (pc_to m (m.pc + n)))))

-- an instruction fetched counts even if its decode or price refuses
unfoldable pub turn_of : Env → Machine → Step
turn_of e m = fetch_of e (decode_at e.code m.pc) (fetches_to m (suc m.fetches))

-- how a run ends
pub data End : Type 0 where
  halted : Machine → End
  faulted : Refusal → (fetches : ℕ) → End

unfoldable pub end_of : Step → (fetches : ℕ) → (Machine → End) → End
end_of (step.next m) n on = on m
end_of (step.halt m) n on = halted m
end_of (step.fault x) n on = faulted x n

-- at most so many turns; each but the last costs 1 or more, so no run within its limit comes to the end of L - D + 1
unfoldable pub run_of : (turns : ℕ) → Env → Machine → End
run_of zero e m = faulted (refusal 1 0) m.fetches
run_of (suc n) e m = end_of (turn_of e m) (suc m.fetches) (run_of n e)
