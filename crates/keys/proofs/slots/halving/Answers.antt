-- `keys::slots::halving` meets its contract: it says yes only at a slot that is the number. Assumes nothing.
use Rattle.std.specs.Prelude.{◌+◌, ◌-◌, ◌/◌}
use Rattle.std.proofs.Common.{sym, ◌∙◌, arith}
use Rattle.std.specs.declared.cmp.Ordering.TheVariants.{Equal}
use Rattle.std.proofs.lemmas.Cmp.{ranked}
use Rattle.keys.specs.SlotLaws.{listed_at}
use Rattle.keys.proofs.slots.halving.Goals as goal

pub returns-in-Equal : goal.returns-in-Equal
returns-in-Equal c =
    let l = c.loop-lo in
    λ e. listed_at (l.lo + (l.hi - l.lo) / 2) _ _ _ (omega arith) (sym c.read-v.ensures ∙ ranked _ _ Equal c.in-Equal.ensures)
