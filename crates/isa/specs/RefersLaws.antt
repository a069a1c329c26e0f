-- A constant's index stands in two bytes. Assumes nothing.
use Rattle.std.specs.Prelude.{ℕ, ◌<◌, ◌≡◌, refl, Bool, true, false, eqb}
use Rattle.std.proofs.Common.{ap, arith, eqb-true}
use Rattle.isa.specs.declared.opcode.OpCode.{OpCode}
use Rattle.isa.specs.declared.opcode.Kind.{Kind}
use Rattle.isa.specs.declared.opcode.Kind.TheVariants.{Registers, Constant, Other}
use Rattle.isa.specs.declared.instr.Instr.{Instr}
use Rattle.isa.specs.declared.flow.Flow.{Flow}
use Rattle.isa.specs.declared.flow.Flow.TheVariants.{Next, Stop, Jump, Branch, Enter, Return}
use Rattle.isa.specs.declared.flow.Refers.TheVariants.{Const}
use Rattle.isa.specs.Table.{row_of, wide_of}
use Rattle.isa.specs.TableLaws.{tests_where}
use Rattle.isa.specs.Forms.{form_of}
use Rattle.isa.specs.Range.{InRange}
use Rattle.isa.specs.Kinds.{kind_of}
use Rattle.isa.specs.Flow.{flow_of}
use Rattle.isa.specs.Refers.{aim_of, refers_by, refers_to}

abbrev is_constant : Kind → Bool
is_constant Registers = false
is_constant Constant = true
is_constant Other = false

wide_constant : (o : OpCode) → kind_of o ≡ Constant → wide_of o ≡ 2
unfolding row_of kind_of
wide_constant o e = eqb-true (wide_of o) 2 (tests_where (λ (p : OpCode). is_constant (kind_of p)) (λ (p : OpCode). eqb (wide_of p) 2) refl o (ap is_constant e))

-- a flow names no constant
no_constant : (f : Flow) (k : ℕ) → aim_of f ≡ Const k → ⊥
unfolding aim_of
no_constant Next k h = let z : ◌≡◌ {A = ℕ} 0 1 = cc in omega arith
no_constant Stop k h = let z : ◌≡◌ {A = ℕ} 0 1 = cc in omega arith
no_constant (Jump place) k h = let z : ◌≡◌ {A = ℕ} 0 1 = cc in omega arith
no_constant (Branch place) k h = let z : ◌≡◌ {A = ℕ} 0 1 = cc in omega arith
no_constant (Enter place) k h = let z : ◌≡◌ {A = ℕ} 0 1 = cc in omega arith
no_constant Return k h = let z : ◌≡◌ {A = ℕ} 0 1 = cc in omega arith

-- an instruction in range refers to no index of 65536 or more
pub index_small : (i : Instr) (k : ℕ) → InRange i → refers_to i ≡ Const k → k < 65536
unfolding refers_to refers_by
index_small i k r e = by (kind_of (form_of i).op) refl e
  where
    by : (t : Kind) → kind_of (form_of i).op ≡ t → refers_by t (form_of i).number (flow_of i) ≡ Const k → k < 65536
    by Registers q h = absurd (let z : ◌≡◌ {A = ℕ} 0 1 = cc in omega arith)
    by Constant q h =
        let n : (form_of i).number ≡ k = cc in
        omega (arith, n, rw (wide_constant (form_of i).op q) at r.number)
    by Other q h = absurd (no_constant (flow_of i) k h)
