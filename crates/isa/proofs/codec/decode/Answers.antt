-- `decode` meets its contract: the operands of an opcode are read by its shape. Assumes nothing.
use mathlib.Core.Path.{◌≡◌, refl, sym, ap, ◌∙◌}
use Prim.Native.Nat.{ℕ, ◌+◌, ◌-◌}
use native.Mathlib.Omega.{arith}
use lib.ListN.{length, take, drop}
use Rattle.std.specs.Prelude.{Some, None, Result, Ok, Err}
use Rattle.std.specs.Result.{result_ok}
use Rattle.isa.specs.declared.opcode.OpCode.{OpCode}
use Rattle.isa.specs.declared.instr.Instr.{Instr}
use Rattle.isa.specs.declared.codec.DecodeError.{DecodeError}
use Rattle.isa.specs.Table.{row_of}
use Rattle.isa.specs.declared.opcode.OpRow.{OpRow}
use Rattle.isa.specs.Shapes.{refused_by}
use Rattle.isa.specs.Codec.{first_bad, operands_of, decode_at}
use Rattle.words.specs.BytesLaws.{rest}
use Rattle.isa.specs.DecodeLaws.{past_end, no_opcode, an_opcode}
use Rattle.isa.specs.ShapeLaws.{row_shape, row_bare, row_six, refused_told}
use Rattle.isa.proofs.codec.decode.Goals as goal
use Rattle.isa.proofs.codec.decode.Goals.{After-row-row, in-0+in_default-none, in-1+in_default-one, in-2+in_default-two, in-3+in_default-three, in_default-n+in_default-six}

abbrev opcode : After-row-row → OpCode
opcode c = c.in-Some.op

-- an instruction that a shape told is the answer of its operands
kept : (r : Result (Instr × ℕ) DecodeError) (x : Instr × ℕ) → Some x ≡ result_ok r → Ok x ≡ r
kept (Ok y) x e = let k : x ≡ y = cc in ap Ok k
kept (Err z) x e = absurd (let o : ◌≡◌ {A = ℕ} 0 1 = cc in omega arith)

-- what the bytes after the opcode say is the answer
says : (c : After-row-row) → let code = c.args.code.now in let at = c.args.place + 1 in
    operands_of (opcode c) (take (length code - at) (drop at code)) ≡ decode_at code c.args.place
says c =
    let a = c.args in
    rw (rest (a.place + 1) a.code.now) (an_opcode a.code.now a.place (omega arith) (opcode c) (sym c.from_byte.ensures ∙ c.in-Some.is))

pub returns-in_default : goal.returns-in_default
returns-in_default c =
    let a = c.args in
    no_opcode a.code.now a.place (omega arith) (sym c.from_byte.ensures ∙ c.in_default.is)

pub returns-then-code-place : goal.returns-then-code-place
unfolding row_of
returns-then-code-place c = past_end _ _ c.if-code-place.true

pub none-requires : goal.none-requires
unfolding row_of
none-requires c = row_shape (opcode (goal.at-none-requires c).After-row-row) _ c.row-row.ensures 0 c.in-0.is

pub returns-in-Some-none : goal.returns-in-Some-none
unfolding row_of
returns-in-Some-none c = kept _ _ (sym c.in-Some-none.is ∙ c.none.ensures) ∙ says (goal.at-returns-in-Some-none c).After-row-row

pub one-requires : goal.one-requires
unfolding row_of
one-requires c = row_shape (opcode (goal.at-one-requires c).After-row-row) _ c.row-row.ensures 1 c.in-1.is

pub returns-in-Some-one : goal.returns-in-Some-one
unfolding row_of
returns-in-Some-one c = kept _ _ (sym c.in-Some-one.is ∙ c.one.ensures) ∙ says (goal.at-returns-in-Some-one c).After-row-row

pub two-requires : goal.two-requires
unfolding row_of
two-requires c = row_bare (opcode (goal.at-two-requires c).After-row-row) _ c.row-row.ensures 2 refl c.in-2.is

pub returns-in-Some-two : goal.returns-in-Some-two
unfolding row_of
returns-in-Some-two c = kept _ _ (sym c.in-Some-two.is ∙ c.two.ensures) ∙ says (goal.at-returns-in-Some-two c).After-row-row

pub three-requires : goal.three-requires
unfolding row_of
three-requires c = row_bare (opcode (goal.at-three-requires c).After-row-row) _ c.row-row.ensures 3 refl c.in-3.is

pub returns-in-Some-three : goal.returns-in-Some-three
unfolding row_of
returns-in-Some-three c = kept _ _ (sym c.in-Some-three.is ∙ c.three.ensures) ∙ says (goal.at-returns-in-Some-three c).After-row-row

pub six-requires : goal.six-requires
unfolding row_of
six-requires c = row_six (opcode (goal.at-six-requires c).After-row-row) _ c.row-row.ensures (omega (arith, c.in_default-n.in_default-n-own.rest))

pub returns-in-Some-six : goal.returns-in-Some-six
unfolding row_of
returns-in-Some-six c = kept _ _ (sym c.in-Some-six.is ∙ c.six.ensures) ∙ says (goal.at-returns-in-Some-six c).After-row-row

-- no shape told one
nothing : (c : goal.After-refused) → let code = c.args.code.now in let at = c.args.place + 1 in
    None ≡ result_ok (operands_of (opcode (goal.at-returns c).After-row-row) (take (length code - at) (drop at code)))
unfolding row_of
nothing c =
    elim c.match-n.branch [
      | in-0+in_default-none w ↦ sym w.in_default-none.is ∙ w.none.ensures
      | in-1+in_default-one w ↦ sym w.in_default-one.is ∙ w.one.ensures
      | in-2+in_default-two w ↦ sym w.in_default-two.is ∙ w.two.ensures
      | in-3+in_default-three w ↦ sym w.in_default-three.is ∙ w.three.ensures
      | in_default-n+in_default-six w ↦ sym w.in_default-six.is ∙ w.six.ensures
    ]

pub returns : goal.returns
unfolding row_of
returns c =
    let k = (goal.at-returns c).After-row-row in
    let code = c.args.code.now in
    let at = c.args.place + 1 in
    c.refused.ensures
    ∙ ap (λ (n : ℕ). refused_by (first_bad (take n (take (length code - at) (drop at code))))) (ap (λ (r : OpRow). r.1) c.row-row.ensures)
    ∙ refused_told (opcode k) _ (nothing c)
    ∙ says k
