-- What a reader may cite of the register operations. Assumes nothing.
use Rattle.std.specs.Prelude.{◌≡◌, ℕ, ◌/◌, ◌%◌, ◌^◌, ◌<◌, Bool, true, false, length, ◌==◌, slice_set, refl, Result, Ok, Err}
use Rattle.std.proofs.Common.{get_or-set_same, lt-length-set}
use Rattle.words.specs.Choice.{pick}
use Rattle.isa.specs.declared.instr.Instr.{Instr}
use Rattle.isa.specs.declared.instr.Instr.TheVariants as instr
use Rattle.state.specs.declared.alu.Op.{Op}
use Rattle.state.specs.declared.alu.Op.TheVariants as op
use Rattle.state.specs.declared.alu.Wanted.{Wanted}
use Rattle.state.specs.declared.alu.Wanted.TheVariants.{Quotient, Rest}
use Rattle.state.specs.declared.regs.RegFile.{RegFile}
use Rattle.state.specs.Alu.{alu_of}
use Rattle.state.specs.Regs.{FaultKeeps, reg, set_reg, set_wide, done, refused, put_value, wide_reg, rule_two, rule_wide, register_step}
use Rattle.state.specs.declared.fault.Fault.{Fault}
use Rattle.state.specs.declared.fault.Fault.TheVariants.{DivByZero}

-- with one register for both words the high one stays
pub high_stays : (f : RegFile) (d v : ℕ) → d < length f.r → reg (set_wide f d d v) d ≡ v / 2 ^ 64
high_stays f d v h = get_or-set_same (slice_set f.r d (v % 2 ^ 64)) d (v / 2 ^ 64) 0 (lt-length-set f.r d (v % 2 ^ 64) h)

-- what faults leaves the file as it was
done_keeps : (f g : RegFile) → FaultKeeps f (done g)
done_keeps f g n = absurd (n refl)

put_keeps : (f : RegFile) (d : ℕ) (v : Result ℕ Fault) → FaultKeeps f (put_value f d v)
put_keeps f d (Ok v) = done_keeps f (set_reg f d v)
put_keeps f d (Err k) = λ n. refl

pick_keeps : (t : Bool) (f g : RegFile) → FaultKeeps f (pick t (refused f DivByZero) (done g))
pick_keeps true f g = λ n. refl
pick_keeps false f g = done_keeps f g

two_keeps : (o : Op) (f : RegFile) (d a b : ℕ) → FaultKeeps f (rule_two o f d a b)
two_keeps o f d a b = put_keeps f d (alu_of o (reg f a) (reg f b))

wide_keeps : (w : Wanted) (f : RegFile) (dlo dhi alo ahi blo bhi : ℕ) → FaultKeeps f (rule_wide w f dlo dhi alo ahi blo bhi)
wide_keeps w f dlo dhi alo ahi blo bhi = pick_keeps (wide_reg f blo bhi == 0) f _

pub step_keeps : (i : Instr) (f : RegFile) → FaultKeeps f (register_step i f)
unfolding register_step
step_keeps i f =
    elim i as (λ (i : Instr). FaultKeeps f (register_step i f)) [
      | instr.Halt ↦ λ n. refl
      | instr.Nop ↦ λ n. refl
      | instr.Mov d a ↦ done_keeps f _
      | instr.Ldi d imm ↦ done_keeps f _
      | instr.Ldc d idx ↦ λ n. refl
      | instr.Add d a b ↦ two_keeps op.Add f d a b
      | instr.Sub d a b ↦ two_keeps op.Sub f d a b
      | instr.Mul d a b ↦ two_keeps op.Mul f d a b
      | instr.Div d a b ↦ two_keeps op.Div f d a b
      | instr.Rem d a b ↦ two_keeps op.Rem f d a b
      | instr.AddW d a b ↦ two_keeps op.AddW f d a b
      | instr.SubW d a b ↦ two_keeps op.SubW f d a b
      | instr.MulW d a b ↦ two_keeps op.MulW f d a b
      | instr.MulHi d a b ↦ two_keeps op.MulHi f d a b
      | instr.DivW dlo dhi alo ahi blo bhi ↦ wide_keeps Quotient f dlo dhi alo ahi blo bhi
      | instr.RemW dlo dhi alo ahi blo bhi ↦ wide_keeps Rest f dlo dhi alo ahi blo bhi
      | instr.And d a b ↦ two_keeps op.And f d a b
      | instr.Or d a b ↦ two_keeps op.Or f d a b
      | instr.Xor d a b ↦ two_keeps op.Xor f d a b
      | instr.Not d a ↦ done_keeps f _
      | instr.Shl d a b ↦ two_keeps op.Shl f d a b
      | instr.Shr d a b ↦ two_keeps op.Shr f d a b
      | instr.Eq d a b ↦ two_keeps op.Eq f d a b
      | instr.LtU d a b ↦ two_keeps op.LtU f d a b
      | instr.GtU d a b ↦ two_keeps op.GtU f d a b
      | instr.Push a ↦ λ n. refl
      | instr.Pop d ↦ λ n. refl
      | instr.MLoad d a ↦ λ n. refl
      | instr.MStore a b ↦ λ n. refl
      | instr.Jmp target ↦ λ n. refl
      | instr.Jz a target ↦ λ n. refl
      | instr.Jnz a target ↦ λ n. refl
      | instr.Call target ↦ λ n. refl
      | instr.Ret ↦ λ n. refl
      | instr.SLoad d a ↦ λ n. refl
      | instr.SStore a b ↦ λ n. refl
      | instr.Send a b c ↦ λ n. refl
      | instr.Emit a b c ↦ λ n. refl
      | instr.Hash a b c ↦ λ n. refl
      | instr.VerifyMl a b c ↦ λ n. refl
      | instr.VerifySlh a b c ↦ λ n. refl
      | instr.MerkleVerify a b c ↦ λ n. refl
      | instr.Addr a b c ↦ λ n. refl
    ]
