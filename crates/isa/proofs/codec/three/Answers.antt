-- `three` meets its contract. Assumes nothing.
use Rattle.std.proofs.Common.{sym, ap, ◌∙◌}
use Rattle.std.specs.Result.{result_ok}
use Rattle.words.specs.Bytes.{num, num_from}
use Rattle.isa.specs.ShapeLaws.{shape_none, shape_done}
use Rattle.isa.proofs.codec.three.Goals as goal

pub returns-then-not-stands : goal.returns-then-not-stands
returns-then-not-stands c = shape_none c.args.op c.args.s.now 3 0 c.requires (sym c.stands.ensures.answer ∙ c.if-not-stands.true)

pub returns : goal.returns
unfolding num num_from
returns c =
    let a = c.args in
    ap result_ok (shape_done a.op a.s.now 3 0 c.requires (sym c.stands.ensures.answer ∙ c.if-not-stands.false) _ (c.with_three.ensures c.requires))
