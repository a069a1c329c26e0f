-- Laws of the opcode table: every opcode is found by its byte, and what a test says of every row holds of each. Assumes nothing.
use Rattle.std.specs.Prelude.{ℕ, ◌≤◌, ◌≡◌, refl, List, [], ◌∷◌, Bool, true, false, leb, eqb, Some, None}
use Rattle.std.proofs.Common.{sym, ap, ◌∙◌, arith, ne_eqb, leb-true, eqb-true}
use Rattle.words.specs.Choice.{pick}
use Rattle.isa.specs.declared.opcode.OpCode.{OpCode}
use Rattle.isa.specs.ComputedLaws.{computed}
use Rattle.isa.specs.Table.{row_of, byte_of, regs_of, wide_of, length_of, op_with, op_at, opcodes}

-- what the last arm of a match on a byte is given: that the byte is none of the listed opcodes'
abbrev pub Rest : Type 0 → List OpCode → ℕ → Type 0
Rest N [] b = N
Rest N (o ∷ os) b = Rest (N × (b ≡ byte_of o → ⊥)) os b

pub none_of : (N : Type 0) (os : List OpCode) (b : ℕ) → Rest N os b → (op_with b os ≡ None) × N
unfolding op_with
none_of N [] b r = (refl, r)
none_of N (o ∷ os) b r =
    let h = none_of (N × (b ≡ byte_of o → ⊥)) os b r in
    (rw (ne_eqb b (byte_of o) h.1.1) h.0, h.1.0)

-- every opcode is found by its byte
pub known : (o : OpCode) → op_at (byte_of o) ≡ Some o
known o = (computed o).0

-- what holds of each listed opcode
abbrev pub All : (OpCode → Type 0) → List OpCode → Type 0
All P [] = Unit {0}
All P (o ∷ os) = P o × All P os

found : (P : OpCode → Type 0) (b : ℕ) (os : List OpCode) (o : OpCode) → All P os → op_with b os ≡ Some o → P o
unfolding op_with
found P b [] o p h = absurd (let z : ◌≡◌ {A = ℕ} 0 1 = cc in omega arith)
found P b (x ∷ os) o p h = by (eqb b (byte_of x)) h (found P b os o p.1)
  where
    by : (t : Bool) → pick t (Some x) (op_with b os) ≡ Some o → (op_with b os ≡ Some o → P o) → P o
    by true k r = let e : x ≡ o = cc in rw e at p.0
    by false k r = r k

-- an opcode that is found by a byte has it
find_byte : (b : ℕ) (os : List OpCode) (o : OpCode) → op_with b os ≡ Some o → b ≡ byte_of o
unfolding op_with
find_byte b [] o h = absurd (let z : ◌≡◌ {A = ℕ} 0 1 = cc in omega arith)
find_byte b (x ∷ os) o h = by (eqb b (byte_of x)) refl h (find_byte b os o)
  where
    by : (t : Bool) → eqb b (byte_of x) ≡ t → pick t (Some x) (op_with b os) ≡ Some o → (op_with b os ≡ Some o → b ≡ byte_of o) → b ≡ byte_of o
    by true q k r = let e : x ≡ o = cc in rw (← e) (eqb-true b (byte_of x) q)
    by false q k r = r k

pub opcode_byte : (b : ℕ) (o : OpCode) → op_at b ≡ Some o → b ≡ byte_of o
unfolding op_at
opcode_byte b o h = find_byte b opcodes o h

-- what holds of every listed opcode holds of each opcode
pub each : (P : OpCode → Type 0) → All P opcodes → (o : OpCode) → P o
unfolding op_at
each P p o = found P (byte_of o) opcodes o p (known o)

-- a test that holds of every listed opcode
abbrev pub all_of : (OpCode → Bool) → List OpCode → Bool
all_of f [] = true
all_of f (o ∷ os) = pick (f o) (all_of f os) false

all_of_lem : (f : OpCode → Bool) (os : List OpCode) → all_of f os ≡ true → All (λ (o : OpCode). f o ≡ true) os
all_of_lem f [] h = tt
all_of_lem f (o ∷ os) h = by (f o) refl h (all_of_lem f os)
  where
    by : (t : Bool) → f o ≡ t → pick t (all_of f os) false ≡ true → (all_of f os ≡ true → All (λ (o : OpCode). f o ≡ true) os) →
        (f o ≡ true) × All (λ (o : OpCode). f o ≡ true) os
    by true e k r = (e, r k)
    by false e k r = absurd (let z : false ≡ true = k in let y : ◌≡◌ {A = ℕ} 0 1 = cc in omega arith)

-- a test computed over the table holds at each opcode
pub tests : (f : OpCode → Bool) → all_of f opcodes ≡ true → (o : OpCode) → f o ≡ true
tests f h = each (λ (o : OpCode). f o ≡ true) (all_of_lem f opcodes h)

-- and where a second test holds wherever a first does
pub tests_where : (a b : OpCode → Bool) → all_of (λ (o : OpCode). pick (a o) (b o) true) opcodes ≡ true → (o : OpCode) → a o ≡ true → b o ≡ true
tests_where a b h o e = rw e at (tests (λ (o : OpCode). pick (a o) (b o) true) h o)

-- two opcodes of one byte are one
pub same_byte : (o p : OpCode) → byte_of o ≡ byte_of p → o ≡ p
same_byte o p e = let k : Some o ≡ Some p = sym (known o) ∙ ap op_at e ∙ known p in cc

-- no opcode has more than 6 registers, more than 8 bytes of number or more than 10 bytes in all
pub record RowBounds (o : OpCode) : Type 0 where
  pub regs : regs_of o ≤ 6
  pub wide : wide_of o ≤ 8
  pub length : length_of o ≤ 10

pub row_bounds : (o : OpCode) → RowBounds o
unfolding row_of
row_bounds o = record {
  regs = leb-true _ _ (tests (λ (o : OpCode). leb (regs_of o) 6) refl o);
  wide = leb-true _ _ (tests (λ (o : OpCode). leb (wide_of o) 8) refl o);
  length = leb-true _ _ (tests (λ (o : OpCode). leb (length_of o) 10) refl o);
}
