-- A fault of the register operations has a number, and no argument. Assumes nothing.
use Rattle.std.specs.Prelude.{◌≡◌, refl, ◌<◌, Bool, true, false, ℕ, ◌+◌, ◌-◌, ◌*◌, ◌/◌, ◌%◌, ◌^◌, ◌==◌, nat_le, nat_lt, Option, Some, None, Result, Ok, Err}
use Rattle.std.proofs.Common.{arith}
use Rattle.words.specs.Choice.{pick}
use Rattle.words.specs.Refusals.{refusal}
use Rattle.isa.specs.declared.instr.Instr.{Instr}
use Rattle.isa.specs.declared.instr.Instr.TheVariants as instr
use Rattle.state.specs.declared.alu.Op.{Op}
use Rattle.state.specs.declared.alu.Op.TheVariants as op
use Rattle.state.specs.declared.alu.Wanted.{Wanted}
use Rattle.state.specs.declared.alu.Wanted.TheVariants.{Quotient, Rest}
use Rattle.state.specs.declared.regs.RegFile.{RegFile}
use Rattle.state.specs.declared.fault.Fault.{Fault}
use Rattle.state.specs.declared.fault.Fault.TheVariants.{Overflow, DivByZero, NotRegister}
use Rattle.state.specs.Faults.{fault_refusal}
use Rattle.state.specs.Alu.{word, over, alu_of}
use Rattle.state.specs.Regs.{reg, done, refused, put_value, wide_reg, rule_two, rule_wide, register_step}

abbrev pub Plain : Option Fault → Type 0
Plain None = Unit
Plain (Some n) = (fault_refusal n ≡ refusal (fault_refusal n).number 0) × (0 < (fault_refusal n).number)

abbrev ValuePlain : Result ℕ Fault → Type 0
ValuePlain (Ok v) = Unit
ValuePlain (Err n) = Plain (Some n)

not_plain : Plain (Some NotRegister)
not_plain = (refl, omega arith)

word_plain : (v : ℕ) → ValuePlain (word v)
word_plain v = go (nat_lt v (2 ^ 64))
  where
    go : (t : Bool) → ValuePlain (pick t (Ok v) (Err Overflow))
    go true = tt
    go false = (refl, omega arith)

over_plain : (d v : ℕ) → ValuePlain (over d v)
over_plain d v = go (d == 0)
  where
    go : (t : Bool) → ValuePlain (pick t (Err DivByZero) (Ok v))
    go true = (refl, omega arith)
    go false = tt

alu_plain : (o : Op) (x y : ℕ) → ValuePlain (alu_of o x y)
unfolding alu_of
alu_plain o x y =
    elim o as (λ (o : Op). ValuePlain (alu_of o x y)) [
      | op.Add ↦ word_plain (x + y)
      | op.Sub ↦ go (nat_le y x)
      | op.Mul ↦ word_plain (x * y)
      | op.Div ↦ over_plain y (x / y)
      | op.Rem ↦ over_plain y (x % y)
      | op.AddW ↦ tt
      | op.SubW ↦ tt
      | op.MulW ↦ tt
      | op.MulHi ↦ tt
      | op.And ↦ tt
      | op.Or ↦ tt
      | op.Xor ↦ tt
      | op.Shl ↦ tt
      | op.Shr ↦ tt
      | op.Eq ↦ tt
      | op.LtU ↦ tt
      | op.GtU ↦ tt
    ]
  where
    go : (t : Bool) → ValuePlain (pick t (Ok (x - y)) (Err Overflow))
    go true = tt
    go false = (refl, omega arith)

put_plain : (f : RegFile) (d : ℕ) (v : Result ℕ Fault) → ValuePlain v → Plain (put_value f d v).fault
put_plain f d (Ok v) h = tt
put_plain f d (Err n) h = h

two_plain : (o : Op) (f : RegFile) (d a b : ℕ) → Plain (rule_two o f d a b).fault
two_plain o f d a b = put_plain f d (alu_of o (reg f a) (reg f b)) (alu_plain o (reg f a) (reg f b))

wide_plain : (w : Wanted) (f : RegFile) (dlo dhi alo ahi blo bhi : ℕ) → Plain (rule_wide w f dlo dhi alo ahi blo bhi).fault
wide_plain w f dlo dhi alo ahi blo bhi = go (wide_reg f blo bhi == 0) _
  where
    go : (t : Bool) (g : RegFile) → Plain (pick t (refused f DivByZero) (done g)).fault
    go true g = (refl, omega arith)
    go false g = tt

pub step_plain : (i : Instr) (f : RegFile) → Plain (register_step i f).fault
unfolding register_step
step_plain i f =
    elim i as (λ (i : Instr). Plain (register_step i f).fault) [
      | instr.Halt ↦ not_plain
      | instr.Nop ↦ not_plain
      | instr.Mov d a ↦ tt
      | instr.Ldi d imm ↦ tt
      | instr.Ldc d idx ↦ not_plain
      | instr.Add d a b ↦ two_plain op.Add f d a b
      | instr.Sub d a b ↦ two_plain op.Sub f d a b
      | instr.Mul d a b ↦ two_plain op.Mul f d a b
      | instr.Div d a b ↦ two_plain op.Div f d a b
      | instr.Rem d a b ↦ two_plain op.Rem f d a b
      | instr.AddW d a b ↦ two_plain op.AddW f d a b
      | instr.SubW d a b ↦ two_plain op.SubW f d a b
      | instr.MulW d a b ↦ two_plain op.MulW f d a b
      | instr.MulHi d a b ↦ two_plain op.MulHi f d a b
      | instr.DivW dlo dhi alo ahi blo bhi ↦ wide_plain Quotient f dlo dhi alo ahi blo bhi
      | instr.RemW dlo dhi alo ahi blo bhi ↦ wide_plain Rest f dlo dhi alo ahi blo bhi
      | instr.And d a b ↦ two_plain op.And f d a b
      | instr.Or d a b ↦ two_plain op.Or f d a b
      | instr.Xor d a b ↦ two_plain op.Xor f d a b
      | instr.Not d a ↦ tt
      | instr.Shl d a b ↦ two_plain op.Shl f d a b
      | instr.Shr d a b ↦ two_plain op.Shr f d a b
      | instr.Eq d a b ↦ two_plain op.Eq f d a b
      | instr.LtU d a b ↦ two_plain op.LtU f d a b
      | instr.GtU d a b ↦ two_plain op.GtU f d a b
      | instr.Push a ↦ not_plain
      | instr.Pop d ↦ not_plain
      | instr.MLoad d a ↦ not_plain
      | instr.MStore a b ↦ not_plain
      | instr.Jmp target ↦ not_plain
      | instr.Jz a target ↦ not_plain
      | instr.Jnz a target ↦ not_plain
      | instr.Call target ↦ not_plain
      | instr.Ret ↦ not_plain
      | instr.SLoad d a ↦ not_plain
      | instr.SStore a b ↦ not_plain
      | instr.Send a b c ↦ not_plain
      | instr.Emit a b c ↦ not_plain
      | instr.Hash a b c ↦ not_plain
      | instr.VerifyMl a b c ↦ not_plain
      | instr.VerifySlh a b c ↦ not_plain
      | instr.MerkleVerify a b c ↦ not_plain
      | instr.Addr a b c ↦ not_plain
    ]
