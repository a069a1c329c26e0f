-- `keys::slots::listed` meets its contract: what halving finds is among the words; in the walk those from i on decide. Assumes nothing.
use Rattle.std.proofs.Common.{sym, ◌∙◌}
use Rattle.keys.specs.SlotLaws.{listed_hit, listed_on, listed_end}
use Rattle.keys.proofs.slots.listed.Goals as goal

pub returns-then-read-x : goal.returns-then-read-x
returns-then-read-x c =
    let l = c.loop-i in
    sym (l.invariant ∙ listed_hit _ l.i _ _ c.loop-i-test.true (sym c.read.ensures ∙ c.if-read-x.true))

pub loop-i-preserved : goal.loop-i-preserved
loop-i-preserved c =
    let l = c.loop-i in
    l.invariant ∙ listed_on _ l.i _ _ c.loop-i-test.true (λ e. c.if-read-x.false (c.read.ensures ∙ e))

pub returns : goal.returns
returns c = let l = c.loop-i in sym (l.invariant ∙ listed_end _ l.i _ _ c.loop-i-test.false)
