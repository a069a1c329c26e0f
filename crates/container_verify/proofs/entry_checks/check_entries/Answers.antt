-- `check_entries` meets its contract. The loop's invariant: after the selectors at the array's front, the entries ahead decide. Assumes nothing.
use Rattle.std.proofs.lemmas.Result.{err_from_is_err_and}
use Rattle.std.specs.Prelude.{◌-◌, ◌+◌}
use Rattle.std.proofs.Common.{refl, sym, ◌∙◌, arith, length-set}
use Rattle.std.proofs.Math.Nat.{sub-zero}
use Rattle.std.proofs.lemmas.List.{take_more_set}
use Rattle.container.specs.EntryToldLaws.{entry_found, entry_short}
use Rattle.container_verify.specs.CheckLaws.{check_begins, check_on, check_failed, all_checked, none_short}
use Rattle.container_verify.proofs.entry_checks.check_entries.Goals as goal

pub loop-i-init : goal.loop-i-init
loop-i-init c = (refl, rw sub-zero (check_begins _ _ _ _))

pub returns-in_default : goal.returns-in_default
returns-in_default c =
    λ es t starts k m. absurd (none_short _ _ _ _ _ _ _ c.loop-i.invariant.1 es t starts k m (omega arith)
    (entry_short _ c.loop-i.at (sym c.in_default.is ∙ c.entry_at.ensures)))

pub returns-in_err-check_entry : goal.returns-in_err-check_entry
returns-in_err-check_entry c =
    let p = err_from_is_err_and c.from_residual.result c.from_residual.ensures.1 in
    let f = entry_found _ c.loop-i.at _ (sym c.in-Some.is ∙ c.entry_at.ensures) in
    rw (p.1, p.2) (check_failed _ _ _ _ _ _ _ c.loop-i.invariant.1 (omega arith) _ f _ c.check_entry.ensures _ c.in_err-check_entry.was)

pub loop-i-preserved : goal.loop-i-preserved
loop-i-preserved c =
    let l = c.loop-i in
    let f = entry_found _ l.at _ (sym c.in-Some.is ∙ c.entry_at.ensures) in (
      length-set l.seen _ _ ∙ l.invariant.0,
      rw (take_more_set l.seen l.i c.in-Some.e.selector (omega (arith, l.invariant.0)))
          (check_on _ _ _ _ _ _ _ l.invariant.1 (omega arith) _ f _ c.check_entry.ensures c.in_ok-check_entry.was (c.args.n - (l.i + 1)) (omega arith)),
    )

pub returns : goal.returns
returns c = λ es t starts k m. all_checked _ _ _ _ _ _ _ c.loop-i.invariant.1 es t starts k m (omega arith)
