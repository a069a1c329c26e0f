-- `one` meets its contract, an arm for each width of a number after one register. Assumes nothing.
use Prim.Native.Nat.{ℕ, ◌^◌, ◌<◌}
use mathlib.Core.Path.{◌≡◌, refl, sym, ap, subst, ◌∙◌}
use mathlib.Core.Logic.{⊎_elim}
use mathlib.Core.List.{[], ◌∷◌}
use mathlib.Core.Bool.{true}
use native.Mathlib.Omega.{arith}
use lib.ListN.{take, drop}
use Rattle.words.specs.Bytes.{num, num_from}
use Rattle.isa.specs.declared.opcode.OpCode.{OpCode}
use Rattle.isa.specs.declared.opcode.OpCode.TheVariants.{Ldc, Ldi}
use Rattle.isa.specs.Table.{row_of}
use Rattle.isa.specs.TableLaws.{row_bounds}
use Rattle.isa.specs.Forms.{instr_of}
use Rattle.isa.specs.ToldLaws.{instr_told, cut_told}
use Rattle.isa.specs.ComputedLaws.{from}
use Rattle.isa.specs.Codec.{refusal_in}
use Rattle.isa.specs.DecodeLaws.{read_within}
use Rattle.std.specs.Prelude.{is_none}
use Rattle.std.specs.Result.{result_ok}
use Rattle.isa.specs.Shapes.{Shape}
use Rattle.isa.specs.ShapeLaws.{stands_room, shape_none, shape_done, only, widths}
use Rattle.isa.proofs.codec.one.Goals as goal
use Rattle.isa.proofs.codec.one.Goals.{Else-not-stands, In_default}

-- in the arm of a width: the opcode's shape, and that the operands stand
arm : (c : Else-not-stands) (w : ℕ) → c.args.w ≡ w →
    Shape c.args.op 1 w × (is_none (refusal_in 1 w c.args.s.now) ≡ true)
arm c w e =
    subst (λ (v : ℕ). Shape c.args.op 1 v × (is_none (refusal_in 1 v c.args.s.now) ≡ true)) e
    (c.requires, sym c.stands.ensures.answer ∙ c.if-not-stands.false)

-- the last arm's
eight : (c : In_default) → c.args.w ≡ 8
unfolding row_of
eight c =
    let r = c.in_default.in_default-own.rest in
    widths (0 ∷ 2 ∷ 4 ∷ []) 8 1 c.args.w refl c.args.op c.requires (⊎_elim r.0.0.1 (⊎_elim r.0.1 r.1))

-- a number read there is within its width
within : (c : Else-not-stands) (w v : ℕ) → c.args.w ≡ w → v ≡ num (take w (drop 1 c.args.s.now)) → v < 256 ^ w
within c w v e k =
    let s = c.args.s.now in
    read_within s 1 w v (stands_room 1 w s (arm c w e).1) (λ j. (c.type_inv.s j).fits) k

pub stands-requires : goal.stands-requires
stands-requires c = omega (arith, c.requires, (row_bounds c.args.op).length)

pub returns-then-not-stands : goal.returns-then-not-stands
returns-then-not-stands c =
    shape_none c.args.op c.args.s.now 1 c.args.w c.requires (sym c.stands.ensures.answer ∙ c.if-not-stands.true)

pub returns-in-0 : goal.returns-in-0
unfolding num num_from
returns-in-0 c =
    let h = arm (goal.at-returns-in-0 c).Else-not-stands 0 c.in-0.is in
    ap result_ok (shape_done _ _ 1 0 h.0 h.1 _ (c.with_one.ensures h.0))

pub returns-in-2 : goal.returns-in-2
unfolding row_of instr_of
returns-in-2 c =
    let w = c.in-2.is in
    let h = arm (goal.at-returns-in-2 c).Else-not-stands 2 w in
    let o = c.args.op in
    let r = from 0 1 c.args.s.now in
    ap result_ok (shape_done o _ 1 2 h.0 h.1 _
    (cut_told o Ldc r _ 65536 _ (only (λ (o : OpCode). true) 1 2 Ldc refl o h.0 refl) (within (goal.at-returns-in-2 c).Else-not-stands 2 _ w c.read.ensures) refl ∙ ap (instr_of o r) c.read.ensures))

pub returns-in-4 : goal.returns-in-4
returns-in-4 c =
    let w = c.in-4.is in
    let h = arm (goal.at-returns-in-4 c).Else-not-stands 4 w in
    let o = c.args.op in
    let e = c.read-in-4.ensures in
    ap result_ok (shape_done o _ 1 4 h.0 h.1 _ (c.branch-op.ensures h.0 (within (goal.at-returns-in-4 c).Else-not-stands 4 _ w e) ∙ ap (instr_of o (from 0 1 c.args.s.now)) e))

pub returns-in_default : goal.returns-in_default
unfolding row_of instr_of
returns-in_default c =
    let h = arm (goal.at-returns-in_default c).Else-not-stands 8 (eight (goal.at-returns-in_default c).In_default) in
    let o = c.args.op in
    let r = from 0 1 c.args.s.now in
    ap result_ok (shape_done o _ 1 8 h.0 h.1 _ (instr_told o Ldi r _ _ (only (λ (o : OpCode). true) 1 8 Ldi refl o h.0 refl) refl ∙ ap (instr_of o r) c.read-in_default.ensures))

pub read-requires-in_default : goal.read-requires-in_default
read-requires-in_default c = let h = c.stands.ensures.room c.if-not-stands.false in omega (arith, h, eight c)
