-- `check_entry` meets its contract: three tests decide. Assumes nothing.
use mathlib.Core.Path.{◌≡◌, refl, sym, ◌∙◌}
use Rattle.words.specs.Lists.{member}
use Rattle.container_verify.specs.CheckLaws.{any_member, by_tests}
use Rattle.container_verify.proofs.entry_checks.check_entry.Goals as goal
use Rattle.container_verify.proofs.entry_checks.check_entry.Goals.{After-contains}

seen : (c : After-contains) → member c.args.e.selector c.args.seen.now ≡ c.contains.result
seen c = sym (c.contains.ensures.value ∙ any_member c.args.e.selector c.args.seen.now)

pub returns-then-contains : goal.returns-then-contains
returns-then-contains c = by_tests _ _ _ _ _ _ (seen (goal.at-returns-then-contains c).After-contains ∙ c.if-contains.true) refl refl

pub returns-then-not-is_start : goal.returns-then-not-is_start
returns-then-not-is_start c =
    by_tests _ _ _ _ _ _ (seen (goal.at-returns-then-not-is_start c).After-contains ∙ c.if-contains.false) (sym c.is_start.ensures ∙ c.if-not-is_start.true) refl

pub returns-then-not-slots_within_limit : goal.returns-then-not-slots_within_limit
returns-then-not-slots_within_limit c =
    by_tests _ _ _ _ _ _ (seen (goal.at-returns-then-not-slots_within_limit c).After-contains ∙ c.if-contains.false)
    (sym c.is_start.ensures ∙ c.if-not-is_start.false) (sym c.slots_within_limit.ensures ∙ c.if-not-slots_within_limit.true)

pub returns : goal.returns
returns c =
    by_tests _ _ _ _ _ _ (seen (goal.at-returns c).After-contains ∙ c.if-contains.false)
    (sym c.is_start.ensures ∙ c.if-not-is_start.false) (sym c.slots_within_limit.ensures ∙ c.if-not-slots_within_limit.false)
