-- `tables::order::compare` meets its contract: the strings agree in their first i words. Assumes nothing.
use Rattle.std.specs.Prelude.{◌≡◌, ◌+◌, ◌*◌}
use Rattle.std.proofs.Common.{sym, ◌∙◌, arith}
use Rattle.std.specs.declared.cmp.Ordering.TheVariants.{Equal}
use Rattle.std.proofs.lemmas.Cmp.{ranked}
use Rattle.tables.specs.OrderLaws.{agree_start, agree_next, agree_differ}
use Rattle.tables.proofs.order.compare.Goals as goal

pub loop-i-init : goal.loop-i-init
loop-i-init c = agree_start _ _

pub loop-i-preserved : goal.loop-i-preserved
loop-i-preserved c =
    let on : c.loop-i.i * 8 + 8 ≡ (c.loop-i.i + 1) * 8 = omega arith in
    let same = sym c.read-x.ensures ∙ ranked _ _ Equal c.in-Equal.ensures ∙ c.read-y.ensures in
    rw on at (agree_next c.loop-i.invariant c.requires.0 8 (omega arith) (λ k. (c.type_inv.a k).fits) (λ k. (c.type_inv.b k).fits) same)

pub returns-in_default : goal.returns-in_default
returns-in_default c =
    let told = rw (c.read-x.ensures, c.read-y.ensures) at c.cmp.ensures in
    agree_differ c.loop-i.invariant c.requires.0 8 (omega arith) (λ k. (c.type_inv.a k).fits) (λ k. (c.type_inv.b k).fits) _ told c.in_default.not-Equal
