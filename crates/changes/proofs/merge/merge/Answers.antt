-- `merge::merge` meets its contract: refused in order, else the rows are merged. Assumes nothing.
use Rattle.std.specs.Prelude.{Err, length, refl}
use Rattle.std.proofs.Common.{ap, ◌∙◌, arith}
use Rattle.std.proofs.lemmas.Option.{MatchOption-at_some, MatchOption-at_none}
use Rattle.std.proofs.lemmas.Result.{err_from_is_err_and}
use Rattle.tables.specs.CheckTheorems.{checks_exactly}
use Rattle.changes.specs.AnswerLaws.{counted_some, stored_some, stored_none, refused_by}
use Rattle.changes.specs.MergeLaws.{merges_none, merges_bad, merges_as}
use Rattle.changes.proofs.merge.merge.Goals as goal

pub returns-in_err-changes : goal.returns-in_err-changes
returns-in_err-changes c =
    let told = c.in_err-changes.ensures in
    let p = err_from_is_err_and c.from_residual.result c.from_residual.ensures.1 in
    let none = MatchOption-at_none _ _ told.ok_part c.counted.ensures in
    let ends = merges_as _ _ _ none refl (merges_none _ c.args.out.now) in
    record { answer = p.1 ∙ ap Err (p.2 ∙ refused_by _ _ _ told.value) ∙ ends.0; output = ends.1 }

pub returns-in_err-store : goal.returns-in_err-store
returns-in_err-store c =
    let told = c.in_err-store.ensures in
    let p = err_from_is_err_and c.from_residual-in_err-store.result c.from_residual-in_err-store.ensures.1 in
    let none = stored_none c.args.store.now (MatchOption-at_none _ _ told.ok_part c.check.ensures) in
    let ends = merges_as _ _ _ refl none (merges_bad _ c.args.out.now) in
    record { answer = p.1 ∙ ap Err (p.2 ∙ refused_by _ _ _ told.value) ∙ ends.0; output = ends.1 }

pub merge_whole-requires : goal.merge_whole-requires
merge_whole-requires c =
    let told = MatchOption-at_some _ _ _ c.in_ok-store.ensures.ok_part c.check.ensures in
    ap length told.0 ∙ ((checks_exactly 40 c.args.store.now (omega arith) _).0 told.1).0

pub returns : goal.returns
returns c =
    let counted = MatchOption-at_some _ _ _ c.in_ok-changes.ensures.ok_part c.counted.ensures in
    let stored = MatchOption-at_some _ _ _ c.in_ok-store.ensures.ok_part c.check.ensures in
    let cs = counted_some c.args.changes.now c.in_ok-changes.changes counted.0 c.args.count counted.1 in
    let ss = stored_some c.args.store.now c.in_ok-store.store stored.0 stored.1 in
    let ends = merges_as _ _ _ cs ss (c.merge_whole.ensures.answer, c.merge_whole.ensures.output) in
    record { answer = ends.0; output = ends.1 }
