-- What a fetch answers of the rule's turn.
use Rattle.std.specs.Prelude.{◌≡◌, List, ℕ, suc, ◌+◌, ◌<◌, length, Result, Ok, Err}
use Rattle.isa.specs.Table.{price_of}
use Rattle.isa.specs.Forms.{form_of}
use Rattle.isa.specs.Codec.{decode_at}
use Rattle.isa.specs.declared.instr.Instr.{Instr}
use Rattle.isa.specs.declared.instr.Instr.TheVariants as instr
use Rattle.state.specs.declared.regs.RegFile.{RegFile}
use Rattle.machine.specs.Machine.{Env}
use Rattle.machine.specs.Steps.{Step, fault}
use Rattle.machine.specs.Turns.{step_of, fetch_of, turn_of}
use Rattle.machine.specs.Lent.{Bufs}
use Rattle.machine.specs.Sound.{machine_of, Sound}
use Rattle.machine.specs.declared.run.Run.{Run}
use Rattle.isa.specs.declared.codec.DecodeError.{DecodeError}
use Rattle.state.specs.Faults.{fault_refusal}
use Rattle.state.specs.declared.fault.Fault.{Fault}

-- the instruction that was decoded; a refusal has none, and none is stepped with
unfoldable pub instruction_in : Result (Instr × ℕ) DecodeError → Instr
instruction_in (Ok (i, n)) = i
instruction_in (Err x) = instr.Halt

-- decoded at the run's place of some code
abbrev pub DecodedAt : Result (Instr × ℕ) DecodeError → Run → Type 0
DecodedAt i r = (code : List ℕ) × (i ≡ decode_at code r.pc) × (length code < 18446744073709551616)

-- the turn x is a step with i from a run that is sound
abbrev pub StepsFrom : Env → List ℕ → ℕ → RegFile → Bufs → (fetches : ℕ) → Step → Instr → Run → Type 0
StepsFrom e s d f b k x i q = (x ≡ step_of e i (machine_of s q f b)) × Sound e s (d + price_of (form_of i).op) q b × (q.fetches ≡ k)

-- a step with the decoded instruction, or the fault that the turn comes to
abbrev pub FetchTold : Result (Instr × ℕ) DecodeError → Env → List ℕ → ℕ → RegFile → Bufs → (fetches : ℕ) → Step → Result Run Fault → Type 0
FetchTold i e s d f b k x (Ok q) = StepsFrom e s d f b k x (instruction_in i) q
FetchTold i e s d f b k x (Err w) = (x ≡ fault (fault_refusal w)) × (0 < (fault_refusal w).number)

-- the rest of a fetch, from a run that counts it
abbrev pub Onward : Result (Instr × ℕ) DecodeError → Run → Result Run Fault → Type 0
Onward i r t =
    (e : Env) (s : List ℕ) (d : ℕ) (f : RegFile) (b : Bufs) → Sound e s d r b → FetchTold i e s d f b r.fetches (fetch_of e i (machine_of s r f b)) t

-- d more than the fetches is used before, and the instruction's price more than d afterwards
abbrev pub Fetches : Result (Instr × ℕ) DecodeError → Run → Result Run Fault → Type 0
Fetches i r t =
    (e : Env) (s : List ℕ) (d : ℕ) (f : RegFile) (b : Bufs) → i ≡ decode_at e.code r.pc → Sound e s (suc d) r b →
    FetchTold i e s d f b (suc r.fetches) (turn_of e (machine_of s r f b)) t
