-- `stands` meets its contract: the room, then the registers. Assumes nothing.
use Rattle.std.specs.Prelude.{◌≡◌, Bool, true, false, not, is_none}
use Rattle.std.proofs.Common.{sym, ap, ◌∙◌}
use Rattle.isa.specs.ShapeLaws.{stands_not, stands_all}
use Rattle.isa.proofs.codec.stands.Goals as goal

turned : (b c : Bool) → c ≡ not b → b ≡ not c
turned true c e = rw e
turned false c e = rw e

pub returns-then-s-n-clause-answer : goal.returns-then-s-n-clause-answer
returns-then-s-n-clause-answer c = sym (stands_not _ _ _ c.if-s-n.true)

pub returns-clause-answer : goal.returns-clause-answer
returns-clause-answer c =
    let a = c.args in
    turned _ _ c.is_none.ensures ∙ ap is_none c.first_bad.ensures ∙ sym (stands_all a.n a.w a.s.now c.if-s-n.false)
