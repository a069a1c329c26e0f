-- Taking an instruction apart and putting it together undo one another. Assumes nothing.
use Rattle.std.specs.Prelude.{ℕ, zero, suc, ◌+◌, ◌≤◌, ◌<◌, ◌≡◌, refl, List, eqb, length, take, drop}
use Rattle.std.proofs.Common.{sym, ap, ◌∙◌, arith, drop-cons}
use Rattle.words.specs.Choice.{pick}
use Rattle.words.specs.Lists.{nth}
use Rattle.isa.specs.declared.opcode.OpCode.{OpCode}
use Rattle.isa.specs.declared.instr.Instr.{Instr}
use Rattle.isa.specs.declared.instr.Instr.TheVariants as instr
use Rattle.isa.specs.Table.{regs_of, wide_of}
use Rattle.isa.specs.ComputedLaws.{from, kept, computed}
use Rattle.isa.specs.Forms.{Form, form, form_of, instr_of}

-- an instruction is that of its form
pub rebuilt : (i : Instr) → instr_of (form_of i).op (form_of i).regs (form_of i).number ≡ i
unfolding form_of instr_of
rebuilt i =
    elim i as (λ (i : Instr). instr_of (form_of i).op (form_of i).regs (form_of i).number ≡ i) [
      | instr.Halt ↦ refl
      | instr.Nop ↦ refl
      | instr.Mov d a ↦ refl
      | instr.Ldi d imm ↦ refl
      | instr.Ldc d idx ↦ refl
      | instr.Add d a b ↦ refl
      | instr.Sub d a b ↦ refl
      | instr.Mul d a b ↦ refl
      | instr.Div d a b ↦ refl
      | instr.Rem d a b ↦ refl
      | instr.AddW d a b ↦ refl
      | instr.SubW d a b ↦ refl
      | instr.MulW d a b ↦ refl
      | instr.MulHi d a b ↦ refl
      | instr.DivW dlo dhi alo ahi blo bhi ↦ refl
      | instr.RemW dlo dhi alo ahi blo bhi ↦ refl
      | instr.And d a b ↦ refl
      | instr.Or d a b ↦ refl
      | instr.Xor d a b ↦ refl
      | instr.Not d a ↦ refl
      | instr.Shl d a b ↦ refl
      | instr.Shr d a b ↦ refl
      | instr.Eq d a b ↦ refl
      | instr.LtU d a b ↦ refl
      | instr.GtU d a b ↦ refl
      | instr.Push a ↦ refl
      | instr.Pop d ↦ refl
      | instr.MLoad d a ↦ refl
      | instr.MStore a b ↦ refl
      | instr.Jmp target ↦ refl
      | instr.Jz a target ↦ refl
      | instr.Jnz a target ↦ refl
      | instr.Call target ↦ refl
      | instr.Ret ↦ refl
      | instr.SLoad d a ↦ refl
      | instr.SStore a b ↦ refl
      | instr.Send a b c ↦ refl
      | instr.Emit a b c ↦ refl
      | instr.Hash a b c ↦ refl
      | instr.VerifyMl a b c ↦ refl
      | instr.VerifySlh a b c ↦ refl
      | instr.MerkleVerify a b c ↦ refl
      | instr.Addr a b c ↦ refl
    ]

-- the form of an instruction that was put together is what its opcode keeps
pub taken : (o : OpCode) (r : List ℕ) (n : ℕ) → form_of (instr_of o r n) ≡ kept o r n
taken o = (computed o).1

-- two instructions of one form are one
pub same_form : (i j : Instr) → form_of i ≡ form_of j → i ≡ j
same_form i j e = sym (rebuilt i) ∙ ap (λ (f : Form). instr_of f.op f.regs f.number) e ∙ rebuilt j

length_from : (k n : ℕ) (r : List ℕ) → length (from k n r) ≡ n
length_from k zero r = refl
length_from k (suc n) r = ap suc (length_from (suc k) n r)

-- an instruction keeps all of its form
pub form_kept : (i : Instr) → form_of i ≡ kept (form_of i).op (form_of i).regs (form_of i).number
form_kept i = ap form_of (sym (rebuilt i)) ∙ taken (form_of i).op (form_of i).regs (form_of i).number

-- an instruction has as many registers as its opcode
pub length_regs : (i : Instr) → length (form_of i).regs ≡ regs_of (form_of i).op
length_regs i = ap (λ (f : Form). length f.regs) (form_kept i) ∙ length_from 0 (regs_of (form_of i).op) (form_of i).regs

from_drop : (k n : ℕ) (r : List ℕ) → k + n ≤ length r → from k n r ≡ take n (drop k r)
from_drop k zero r h = refl
from_drop k (suc n) r h = rw (drop-cons r k 0 (omega arith), from_drop (suc k) n r (omega arith))

-- registers that stand are kept as they stand
pub from_take : (n : ℕ) (r : List ℕ) → n ≤ length r → from 0 n r ≡ take n r
from_take n r h = from_drop 0 n r (omega arith)

-- an opcode looks at no more than its own registers
pub same_regs : (o : OpCode) (r s : List ℕ) (n : ℕ) → from 0 (regs_of o) r ≡ from 0 (regs_of o) s → instr_of o r n ≡ instr_of o s n
same_regs o r s n e =
    same_form (instr_of o r n) (instr_of o s n)
    (taken o r n ∙ ap (λ (l : List ℕ). form o l (pick (eqb (wide_of o) 0) 0 n)) e ∙ sym (taken o s n))

nth_from : (j k i : ℕ) (r : List ℕ) → i < k → nth (from j k r) i ≡ nth r (j + i)
nth_from j zero i r h = absurd (omega arith)
nth_from j (suc k) zero r h = let e : j + 0 ≡ j = omega arith in rw e
nth_from j (suc k) (suc i) r h = let e : j + suc i ≡ suc j + i = omega arith in rw e (nth_from (suc j) k i r (omega arith))

-- of the first k registers, the first of them are the same
pub from_from : (j n k : ℕ) (r : List ℕ) → j + n ≤ k → from j n (from 0 k r) ≡ from j n r
from_from j zero k r h = refl
from_from j (suc n) k r h =
    let e : 0 + j ≡ j = omega arith in
    rw (nth_from 0 k j r (omega arith), e, from_from (suc j) n k r (omega arith))

-- its own registers are enough for an opcode
pub own_regs : (o : OpCode) (r : List ℕ) (n : ℕ) → instr_of o (from 0 (regs_of o) r) n ≡ instr_of o r n
own_regs o r n = same_regs o (from 0 (regs_of o) r) r n (from_from 0 (regs_of o) (regs_of o) r (omega arith))
