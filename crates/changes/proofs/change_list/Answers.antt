-- `changes::change_list` meets its contract: the counted rows, the store and the loader are checked in turn. Assumes nothing.
use Rattle.std.specs.Prelude.{◌≡◌, Some, Err}
use Rattle.std.proofs.Common.{ap, ◌∙◌}
use Rattle.std.proofs.lemmas.Option.{MatchOption-at_some, MatchOption-at_none}
use Rattle.std.proofs.lemmas.Result.{err_from_is_err_and}
use Rattle.tables.specs.Checked.{checked_of}
use Rattle.tables.specs.Content.{content}
use Rattle.changes.specs.ChangeList.{ChangesLent, lent, counted_rows, rows_of, list_of}
use Rattle.changes.specs.AnswerLaws.{counted_some, stored_some, stored_none, loader_some, loader_none, no_changes, no_store, no_loader, listed, ends_bad, ends_as, refused_by}
use Rattle.changes.proofs.change_list.Goals as goal
use Rattle.changes.proofs.change_list.Goals.{Start, In_ok-changes, In_ok-store}

-- what is lent
abbrev given : Start → ChangesLent
given s = let a = s.args in lent a.changes.now a.count a.store.now a.has_loader a.loader.now

counted : (c : In_ok-changes) → let a = c.args in counted_rows a.changes.now a.count ≡ Some (content c.in_ok-changes.changes)
counted c =
    let told = MatchOption-at_some _ _ _ c.in_ok-changes.ensures.ok_part c.counted.ensures in
    counted_some c.args.changes.now c.in_ok-changes.changes told.0 c.args.count told.1

pub returns-in_err-changes : goal.returns-in_err-changes
returns-in_err-changes c =
    let l = given (goal.at-returns-in_err-changes c).Start in
    let told = c.in_err-changes.ensures in
    let p = err_from_is_err_and c.from_residual.result c.from_residual.ensures.1 in
    let ends = ends_bad (list_of l) c.args.out.now (no_changes l (MatchOption-at_none _ _ told.ok_part c.counted.ensures)) in
    record { answer = p.1 ∙ ap Err (p.2 ∙ refused_by _ _ _ told.value) ∙ ends.0; output = ends.1 }

stored : (c : In_ok-store) → let t = c.args.store.now in rows_of (checked_of 40 t) t ≡ Some (content c.in_ok-store.store)
stored c =
    let told = MatchOption-at_some _ _ _ c.in_ok-store.ensures.ok_part c.check.ensures in
    stored_some c.args.store.now c.in_ok-store.store told.0 told.1

pub returns-in_err-store : goal.returns-in_err-store
returns-in_err-store c =
    let l = given (goal.at-returns-in_err-store c).Start in
    let told = c.in_err-store.ensures in
    let p = err_from_is_err_and c.from_residual-in_err-store.result c.from_residual-in_err-store.ensures.1 in
    let none = stored_none l.store (MatchOption-at_none _ _ told.ok_part c.check.ensures) in
    let ends = ends_bad (list_of l) c.args.out.now (no_store l _ (counted (goal.at-returns-in_err-store c).In_ok-changes) none) in
    record { answer = p.1 ∙ ap Err (p.2 ∙ refused_by _ _ _ told.value) ∙ ends.0; output = ends.1 }

pub returns-in_err-loader : goal.returns-in_err-loader
returns-in_err-loader c =
    let l = given (goal.at-returns-in_err-loader c).Start in
    let told = c.in_err-loader.ensures in
    let p = err_from_is_err_and c.from_residual-in_err-loader.result c.from_residual-in_err-loader.ensures.1 in
    let none = loader_none l.has_loader l.loader (MatchOption-at_none _ _ told.ok_part c.check_if.ensures) in
    let known = no_loader l _ (counted (goal.at-returns-in_err-loader c).In_ok-changes) _ (stored (goal.at-returns-in_err-loader c).In_ok-store) none in
    let ends = ends_bad (list_of l) c.args.out.now known in
    record { answer = p.1 ∙ ap Err (p.2 ∙ refused_by _ _ _ told.value) ∙ ends.0; output = ends.1 }

pub returns : goal.returns
returns c =
    let l = given (goal.at-returns c).Start in
    let told = MatchOption-at_some _ _ _ c.in_ok-loader.ensures.ok_part c.check_if.ensures in
    let known = listed l _ (counted (goal.at-returns c).In_ok-changes) _ (stored (goal.at-returns c).In_ok-store) _ (loader_some l.loader c.in_ok-loader.loader told.0 l.has_loader told.1) in
    let ends = ends_as (list_of l) _ _ _ _ known (c.list.ensures.answer, c.list.ensures.output) in
    record { answer = ends.0; output = ends.1 }
