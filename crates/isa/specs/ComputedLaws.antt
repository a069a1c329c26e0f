-- What holds of each opcode by computation: it is found by its byte, and an instruction put together of it has the form that it keeps. Assumes nothing.
use Rattle.std.specs.Prelude.{ℕ, zero, suc, ◌≡◌, refl, List, [], ◌∷◌, eqb, Some}
use Rattle.words.specs.Choice.{pick}
use Rattle.words.specs.Lists.{nth}
use Rattle.isa.specs.declared.opcode.OpCode.{OpCode}
use Rattle.isa.specs.declared.opcode.OpCode.TheVariants as op
use Rattle.isa.specs.Table.{row_of, byte_of, regs_of, wide_of, op_with, op_at}
use Rattle.isa.specs.Forms.{Form, form, form_of, instr_of}

-- n registers of a list from place k on
abbrev pub from : (k n : ℕ) → List ℕ → List ℕ
from k zero r = []
from k (suc n) r = nth r k ∷ from (suc k) n r

-- what an opcode keeps of a list of registers and a number
abbrev pub kept : OpCode → List ℕ → ℕ → Form
kept o r n = form o (from 0 (regs_of o) r) (pick (eqb (wide_of o) 0) 0 n)

pub computed : (o : OpCode) → (op_at (byte_of o) ≡ Some o) × ((r : List ℕ) (n : ℕ) → form_of (instr_of o r n) ≡ kept o r n)
unfolding row_of op_with op_at form_of instr_of
computed o =
    elim o as (λ (o : OpCode). (op_at (byte_of o) ≡ Some o) × ((r : List ℕ) (n : ℕ) → form_of (instr_of o r n) ≡ kept o r n)) [
      | op.Halt ↦ (refl, λ r n. refl)
      | op.Nop ↦ (refl, λ r n. refl)
      | op.Mov ↦ (refl, λ r n. refl)
      | op.Ldi ↦ (refl, λ r n. refl)
      | op.Ldc ↦ (refl, λ r n. refl)
      | op.Add ↦ (refl, λ r n. refl)
      | op.Sub ↦ (refl, λ r n. refl)
      | op.Mul ↦ (refl, λ r n. refl)
      | op.Div ↦ (refl, λ r n. refl)
      | op.Rem ↦ (refl, λ r n. refl)
      | op.AddW ↦ (refl, λ r n. refl)
      | op.SubW ↦ (refl, λ r n. refl)
      | op.MulW ↦ (refl, λ r n. refl)
      | op.MulHi ↦ (refl, λ r n. refl)
      | op.DivW ↦ (refl, λ r n. refl)
      | op.RemW ↦ (refl, λ r n. refl)
      | op.And ↦ (refl, λ r n. refl)
      | op.Or ↦ (refl, λ r n. refl)
      | op.Xor ↦ (refl, λ r n. refl)
      | op.Not ↦ (refl, λ r n. refl)
      | op.Shl ↦ (refl, λ r n. refl)
      | op.Shr ↦ (refl, λ r n. refl)
      | op.Eq ↦ (refl, λ r n. refl)
      | op.LtU ↦ (refl, λ r n. refl)
      | op.GtU ↦ (refl, λ r n. refl)
      | op.Push ↦ (refl, λ r n. refl)
      | op.Pop ↦ (refl, λ r n. refl)
      | op.MLoad ↦ (refl, λ r n. refl)
      | op.MStore ↦ (refl, λ r n. refl)
      | op.Jmp ↦ (refl, λ r n. refl)
      | op.Jz ↦ (refl, λ r n. refl)
      | op.Jnz ↦ (refl, λ r n. refl)
      | op.Call ↦ (refl, λ r n. refl)
      | op.Ret ↦ (refl, λ r n. refl)
      | op.SLoad ↦ (refl, λ r n. refl)
      | op.SStore ↦ (refl, λ r n. refl)
      | op.Send ↦ (refl, λ r n. refl)
      | op.Emit ↦ (refl, λ r n. refl)
      | op.Hash ↦ (refl, λ r n. refl)
      | op.VerifyMl ↦ (refl, λ r n. refl)
      | op.VerifySlh ↦ (refl, λ r n. refl)
      | op.MerkleVerify ↦ (refl, λ r n. refl)
      | op.Addr ↦ (refl, λ r n. refl)
    ]
