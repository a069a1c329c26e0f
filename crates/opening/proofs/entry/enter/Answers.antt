-- `enter` meets its contract, a law for each return. Assumes nothing.
use mathlib.Core.Path.{sym, ◌∙◌}
use Rattle.opening.specs.Parts.{Searched}
use Rattle.opening.specs.OpenLaws.{genesis, too_large, searched, not_one, begins}
use Rattle.opening.proofs.entry.enter.Goals as goal
use Rattle.opening.proofs.entry.enter.Goals.{After-unique_entry}

pub returns-then-asks_for_genesis : goal.returns-then-asks_for_genesis
returns-then-asks_for_genesis c = genesis _ _ _ _ _ (sym c.asks_for_genesis.ensures ∙ c.if-asks_for_genesis.true)

pub returns-then-not-sizes_within_limits : goal.returns-then-not-sizes_within_limits
returns-then-not-sizes_within_limits c =
    too_large _ _ _ _ _ (sym c.asks_for_genesis.ensures ∙ c.if-asks_for_genesis.false) _ c.sizes_within_limits.ensures c.if-not-sizes_within_limits.true

-- what the search for the entry says
sought : (c : After-unique_entry) →
    Searched c.args.call c.args.l c.args.lent c.args.container.now c.args.code.now c.unique_entry.result
sought c =
    searched _ _ _ _ _ (sym c.asks_for_genesis.ensures ∙ c.if-asks_for_genesis.false) _ c.sizes_within_limits.ensures c.if-not-sizes_within_limits.false _ c.unique_entry.ensures

pub returns-in_err-e : goal.returns-in_err-e
returns-in_err-e c = not_one _ _ _ _ _ _ (sought (goal.at-returns-in_err-e c).After-unique_entry) _ c.in_err-e.was _ c.from_residual.ensures.1

pub returns : goal.returns
returns c = begins _ _ _ _ _ _ (sought (goal.at-returns c).After-unique_entry) _ c.in_ok-e.was c.begin.result c.begin.ensures
