-- `check` meets its contract, table by table. Assumes nothing.
use Rattle.std.specs.Prelude.{ℕ, Option}
use mathlib.Core.Path.{◌≡◌, sym, ◌∙◌}
use Rattle.keys.specs.declared.look.TableRows.{TableRows}
use Rattle.opening.specs.Parts.{Checks}
use Rattle.opening.specs.TableLaws.{store_bad, loader_bad, tables_by, replied}
use Rattle.opening.proofs.lent.check.Goals as goal
use Rattle.opening.proofs.lent.check.Goals.{After-check_replies}

pub returns-in_default : goal.returns-in_default
returns-in_default c =
    store_bad c.args.call _ c.args.loader.now c.args.replies.now (sym c.check.ensures ∙ c.in_default.is)

pub returns-in_default-check_if : goal.returns-in_default-check_if
returns-in_default-check_if c =
    loader_bad c.args.call _ _ c.args.replies.now _ (sym c.check.ensures ∙ c.in-Some.is) (sym c.check_if.ensures ∙ c.in_default-check_if.is)

abbrev rows_told : After-check_replies → TableRows
rows_told c = record { store = c.in-Some.n; has_loader = c.args.call.has_loader; loader = c.in-Some-check_if.m }

-- the replies decide
replies_decide : (c : After-check_replies) (r : Option ℕ) → c.check_replies.result ≡ r →
    Checks c.args.call c.args.store.now c.args.loader.now c.args.replies.now (tables_by r (rows_told c))
replies_decide c r e =
    replied c.args.call _ _ c.args.replies.now _ (sym c.check.ensures ∙ c.in-Some.is) _
    (sym c.check_if.ensures ∙ c.in-Some-check_if.is) r (sym c.check_replies.ensures ∙ e)

pub returns-in_default-check_replies : goal.returns-in_default-check_replies
returns-in_default-check_replies c = replies_decide (goal.at-returns-in_default-check_replies c).After-check_replies _ c.in_default-check_replies.is

pub returns : goal.returns
returns c = replies_decide (goal.at-returns c).After-check_replies _ c.in-Some-check_replies.is
