-- `begin` meets its contract, a law for each return. Assumes nothing.
use Rattle.std.specs.Prelude.{Ok, Err}
use mathlib.Core.Path.{◌≡◌, sym, ◌∙◌}
use mathlib.Core.Bool.{Bool, true, false}
use Rattle.words.specs.Choice.{pick}
use Rattle.state.specs.declared.fault.Fault.TheVariants.{Malformed}
use Rattle.opening.specs.Parts.{OpensAt}
use Rattle.opening.specs.OpenLaws.{many_slots, too_dear, at_offset}
use Rattle.opening.proofs.entry.begin.Goals as goal
use Rattle.opening.proofs.entry.begin.Goals.{After-is_start}

pub returns-then-not-slots_within_limit : goal.returns-then-not-slots_within_limit
returns-then-not-slots_within_limit c = many_slots _ _ _ _ _ (sym c.slots_within_limit.ensures ∙ c.if-not-slots_within_limit.true)

pub returns-then-call-used : goal.returns-then-call-used
returns-then-call-used c =
    too_dear _ _ _ _ _ (sym c.slots_within_limit.ensures ∙ c.if-not-slots_within_limit.false) _ c.dispatch-used.ensures c.if-call-used.true

-- the offset decides
decided : (c : After-is_start) (t : Bool) → c.is_start.result ≡ t →
    let a = c.args in
    OpensAt a.call a.l a.lent a.e a.code.now
    (pick t (Ok (record { layout = a.l; entry = a.e; lent = a.lent; used = c.dispatch-used.result })) (Err Malformed))
decided c t e =
    at_offset _ _ _ _ _ (sym c.slots_within_limit.ensures ∙ c.if-not-slots_within_limit.false) _ c.dispatch-used.ensures c.if-call-used.false t (sym c.is_start.ensures ∙ e)

pub returns-then-not-is_start : goal.returns-then-not-is_start
returns-then-not-is_start c = decided (goal.at-returns-then-not-is_start c).After-is_start false c.if-not-is_start.true

pub returns : goal.returns
returns c = decided (goal.at-returns c).After-is_start true c.if-not-is_start.false
