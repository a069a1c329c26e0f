-- The register file and its operations (document 01, The run and What changes shape here).
use Rattle.std.specs.Prelude.{◌≡◌, ℕ, ◌+◌, ◌-◌, ◌*◌, ◌/◌, ◌%◌, ◌^◌, List, replicate, ◌==◌, ◌≢◌, slice_index, slice_set, Result, Ok, Err, None, Some}
use Rattle.words.specs.Choice.{pick}
use Rattle.words.specs.Wide.{wide}
use Rattle.isa.specs.declared.instr.Instr.{Instr}
use Rattle.isa.specs.declared.instr.Instr.TheVariants as instr
use Rattle.state.specs.declared.alu.Op.{Op}
use Rattle.state.specs.declared.alu.Op.TheVariants as op
use Rattle.state.specs.declared.alu.Wanted.{Wanted}
use Rattle.state.specs.declared.alu.Wanted.TheVariants.{Quotient, Rest}
use Rattle.state.specs.declared.regs.Outcome.{Outcome}
use Rattle.state.specs.declared.regs.Outcome.TheVariants as outcome
use Rattle.state.specs.declared.regs.RegFile.{RegFile}
use Rattle.state.specs.declared.regs.Stepped.{Stepped}
use Rattle.state.specs.Alu.{alu_of, part_of}
use Rattle.state.specs.declared.fault.Fault.{Fault}
use Rattle.state.specs.declared.fault.Fault.TheVariants.{DivByZero, NotRegister}

-- the file of a list of registers
abbrev pub file : List ℕ → RegFile
file l = record { r = l }

-- all registers zero
abbrev pub cleared : RegFile
cleared = file (replicate 16 0)

-- a register, and the file with another value in it; past the last 0, and no change
abbrev pub reg : RegFile → ℕ → ℕ
reg f i = slice_index f.r i

abbrev pub set_reg : RegFile → ℕ → ℕ → RegFile
set_reg f i v = file (slice_set f.r i v)

-- a step that is done, and one that faults and leaves the file
abbrev pub done : RegFile → Stepped
done f = record { file = f; fault = None }

abbrev pub refused : RegFile → Fault → Stepped
refused f n = record { file = f; fault = Some n }

-- what faults leaves the file as it was
abbrev pub FaultKeeps : RegFile → Stepped → Type 0
FaultKeeps f s = (s.fault ≢ None) → s.file ≡ f

-- a value put into a register
abbrev pub put_value : RegFile → ℕ → Result ℕ Fault → Stepped
put_value f d (Ok v) = done (set_reg f d v)
put_value f d (Err n) = refused f n

-- two registers as one number, and a number put into two, the low word first
abbrev pub wide_reg : RegFile → (lo hi : ℕ) → ℕ
wide_reg f lo hi = reg f hi * 2 ^ 64 + reg f lo

abbrev pub set_wide : RegFile → (lo hi v : ℕ) → RegFile
set_wide f lo hi v = set_reg (set_reg f lo (v % 2 ^ 64)) hi (v / 2 ^ 64)

-- the step of an outcome
abbrev pub applied : RegFile → Result Outcome Fault → Stepped
applied f (Ok (outcome.Put d v)) = done (set_reg f d v)
applied f (Ok (outcome.PutWide lo hi w)) = done (set_wide f lo hi (wide w))
applied f (Err n) = refused f n

-- an operation on two registers
abbrev pub rule_two : Op → RegFile → (d a b : ℕ) → Stepped
rule_two o f d a b = put_value f d (alu_of o (reg f a) (reg f b))

-- a number put into two registers over a divisor that must not be 0
abbrev pub over_wide : RegFile → (lo hi d v : ℕ) → Stepped
over_wide f lo hi d v = pick (d == 0) (refused f DivByZero) (done (set_wide f lo hi v))

-- a division of two words by two
abbrev pub rule_wide : Wanted → RegFile → (dlo dhi alo ahi blo bhi : ℕ) → Stepped
rule_wide w f dlo dhi alo ahi blo bhi = over_wide f dlo dhi (wide_reg f blo bhi) (part_of w (wide_reg f alo ahi) (wide_reg f blo bhi))

-- what an instruction does to the registers; NotRegister where it is no register operation
unfoldable pub register_step : Instr → RegFile → Stepped
register_step instr.Halt f = refused f NotRegister
register_step instr.Nop f = refused f NotRegister
register_step (instr.Mov d a) f = done (set_reg f d (reg f a))
register_step (instr.Ldi d imm) f = done (set_reg f d imm)
register_step (instr.Ldc d idx) f = refused f NotRegister
register_step (instr.Add d a b) f = rule_two op.Add f d a b
register_step (instr.Sub d a b) f = rule_two op.Sub f d a b
register_step (instr.Mul d a b) f = rule_two op.Mul f d a b
register_step (instr.Div d a b) f = rule_two op.Div f d a b
register_step (instr.Rem d a b) f = rule_two op.Rem f d a b
register_step (instr.AddW d a b) f = rule_two op.AddW f d a b
register_step (instr.SubW d a b) f = rule_two op.SubW f d a b
register_step (instr.MulW d a b) f = rule_two op.MulW f d a b
register_step (instr.MulHi d a b) f = rule_two op.MulHi f d a b
register_step (instr.DivW dlo dhi alo ahi blo bhi) f = rule_wide Quotient f dlo dhi alo ahi blo bhi
register_step (instr.RemW dlo dhi alo ahi blo bhi) f = rule_wide Rest f dlo dhi alo ahi blo bhi
register_step (instr.And d a b) f = rule_two op.And f d a b
register_step (instr.Or d a b) f = rule_two op.Or f d a b
register_step (instr.Xor d a b) f = rule_two op.Xor f d a b
register_step (instr.Not d a) f = done (set_reg f d (2 ^ 64 - 1 - reg f a))
register_step (instr.Shl d a b) f = rule_two op.Shl f d a b
register_step (instr.Shr d a b) f = rule_two op.Shr f d a b
register_step (instr.Eq d a b) f = rule_two op.Eq f d a b
register_step (instr.LtU d a b) f = rule_two op.LtU f d a b
register_step (instr.GtU d a b) f = rule_two op.GtU f d a b
register_step (instr.Push a) f = refused f NotRegister
register_step (instr.Pop d) f = refused f NotRegister
register_step (instr.MLoad d a) f = refused f NotRegister
register_step (instr.MStore a b) f = refused f NotRegister
register_step (instr.Jmp target) f = refused f NotRegister
register_step (instr.Jz a target) f = refused f NotRegister
register_step (instr.Jnz a target) f = refused f NotRegister
register_step (instr.Call target) f = refused f NotRegister
register_step instr.Ret f = refused f NotRegister
register_step (instr.SLoad d a) f = refused f NotRegister
register_step (instr.SStore a b) f = refused f NotRegister
register_step (instr.Send a b c) f = refused f NotRegister
register_step (instr.Emit a b c) f = refused f NotRegister
register_step (instr.Hash a b c) f = refused f NotRegister
register_step (instr.VerifyMl a b c) f = refused f NotRegister
register_step (instr.VerifySlh a b c) f = refused f NotRegister
register_step (instr.MerkleVerify a b c) f = refused f NotRegister
register_step (instr.Addr a b c) f = refused f NotRegister
