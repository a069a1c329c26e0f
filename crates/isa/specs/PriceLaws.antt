-- Every instruction but Halt has a base price. Assumes nothing.
use Rattle.std.specs.Prelude.{◌≡◌, refl, Bool, true, false, ◌≤◌, eqb, ltb, Some}
use Rattle.std.proofs.Common.{sym, ap, ◌∙◌, eqb-true, ltb-true}
use Rattle.words.specs.Choice.{either}
use Rattle.isa.specs.Table.{row_of, byte_of, price_of, op_with, op_at}
use Rattle.isa.specs.Forms.{form_of, instr_of}
use Rattle.isa.specs.TableLaws.{tests, known}
use Rattle.isa.specs.FormLaws.{rebuilt}
use Rattle.isa.specs.declared.opcode.OpCode.{OpCode}
use Rattle.isa.specs.declared.opcode.OpCode.TheVariants as op
use Rattle.isa.specs.declared.instr.Instr.{Instr}
use Rattle.isa.specs.declared.instr.Instr.TheVariants as instr

-- a base price, or the byte of Halt
abbrev costs : OpCode → Bool
costs o = either (eqb (byte_of o) 0) (ltb 0 (price_of o))

all_cost : (o : OpCode) → costs o ≡ true
unfolding row_of
all_cost = tests costs refl

zero_halts : (o : OpCode) → byte_of o ≡ 0 → o ≡ op.Halt
unfolding op_at op_with row_of
zero_halts o e = let h : Some op.Halt ≡ Some o = ap op_at (sym e) ∙ known o in cc

halts : (i : Instr) → (form_of i).op ≡ op.Halt → i ≡ instr.Halt
unfolding instr_of
halts i e = sym (rebuilt i) ∙ ap (λ (o : OpCode). instr_of o (form_of i).regs (form_of i).number) e

pub priced : (i : Instr) → (i ≡ instr.Halt → ⊥) → 1 ≤ price_of (form_of i).op
priced i h = go (eqb (byte_of (form_of i).op) 0) refl (all_cost (form_of i).op)
  where
    go : (t : Bool) → eqb (byte_of (form_of i).op) 0 ≡ t → either t (ltb 0 (price_of (form_of i).op)) ≡ true → 1 ≤ price_of (form_of i).op
    go false q c = ltb-true 0 (price_of (form_of i).op) c
    go true q c = absurd (h (halts i (zero_halts (form_of i).op (eqb-true (byte_of (form_of i).op) 0 q))))
