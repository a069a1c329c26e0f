-- `none` meets its contract: a number of an opcode without registers has four bytes. Assumes nothing.
use mathlib.Core.Path.{◌≡◌, refl, sym, ap, ◌∙◌}
use mathlib.Core.List.{[], ◌∷◌}
use mathlib.Core.Bool.{true}
use native.Mathlib.Omega.{arith}
use Rattle.words.specs.Bytes.{num, num_from}
use Rattle.isa.specs.Table.{row_of}
use Rattle.isa.specs.Forms.{instr_of}
use Rattle.isa.specs.Codec.{refusal_in, first_bad}
use Rattle.isa.specs.DecodeLaws.{read_within}
use Rattle.std.specs.Prelude.{is_none}
use Rattle.std.specs.Result.{result_ok}
use Rattle.isa.specs.Shapes.{Shape}
use Rattle.isa.specs.ShapeLaws.{stands_all, stands_room, shape_none, shape_done, widths}
use Rattle.isa.proofs.codec.none.Goals as goal
use Rattle.isa.proofs.codec.none.Goals.{Else-not-stands, Else-w-eq0}

shape : (c : Else-w-eq0) → Shape c.args.op 0 4
unfolding row_of
shape c =
    (c.requires.0, c.requires.1 ∙ widths (0 ∷ []) 4 0 c.args.w refl c.args.op c.requires c.if-w-eq0.false)

stood : (c : Else-not-stands) → is_none (refusal_in 0 4 c.args.s.now) ≡ true
stood c = sym c.stands.ensures.answer ∙ c.if-not-stands.false

pub returns-then-w-eq0 : goal.returns-then-w-eq0
unfolding num num_from first_bad
returns-then-w-eq0 c =
    let s = c.args.s.now in
    let h : Shape c.args.op 0 0 = (c.requires.0, c.requires.1 ∙ c.if-w-eq0.true) in
    ap result_ok (shape_done c.args.op s 0 0 h (stands_all 0 0 s (omega arith)) _ (c.plain.ensures h))

pub returns-then-not-stands : goal.returns-then-not-stands
returns-then-not-stands c =
    let a = c.args in
    shape_none a.op a.s.now 0 4 (shape (goal.at-returns-then-not-stands c).Else-w-eq0) (sym c.stands.ensures.answer ∙ c.if-not-stands.true)

pub returns : goal.returns
returns c =
    let h = shape (goal.at-returns c).Else-w-eq0 in
    let a = c.args in
    let r = c.read in
    ap result_ok (shape_done a.op a.s.now 0 4 h (stood (goal.at-returns c).Else-not-stands) _
    (c.jump.ensures h (read_within a.s.now 0 4 r.result (stands_room 0 4 _ (stood (goal.at-returns c).Else-not-stands)) (λ k'. (c.type_inv.s k').fits) r.ensures) ∙ ap (instr_of a.op []) r.ensures))
