-- `check_code` meets its contract: how the reading ended; with its end what the map holds, and against it targets, then entries. Assumes nothing.
use Rattle.std.proofs.lemmas.Result.{err_from_is_err_and}
use Rattle.std.proofs.Common.{sym, ◌∙◌, arith}
use Rattle.container_verify.specs.Verify.{code_refusal}
use Rattle.container_verify.specs.Checks.{as_check}
use Rattle.container_verify.specs.VerifyLaws.{code_stopped, code_held, target_failed, targets_passed}
use Rattle.container_verify.proofs.verify.check_code.Goals as goal

pub returns-in_err-scan : goal.returns-in_err-scan
unfolding code_refusal as_check
returns-in_err-scan c =
    let p = err_from_is_err_and c.from_residual.result c.from_residual.ensures.1 in
    rw (p.1, p.2) (λ x a h. code_stopped _ _ _ x a _ (sym c.in_err-scan.was ∙ c.scan.ensures.answer))

pub returns-in_err-map_err : goal.returns-in_err-map_err
returns-in_err-map_err c =
    let p = err_from_is_err_and c.from_residual-in_err-map_err.result c.from_residual-in_err-map_err.ensures.1 in
    rw (p.1, p.2) (λ x a h. target_failed _ _ _ _ _ c.targets.ensures _ c.map_err.ensures.cases x _ a
    (code_held _ _ _ x a 8192 _ (omega arith) c.scan.ensures.map) _ c.in_err-map_err.was
    ∙ code_stopped _ _ _ x a _ (sym c.in_ok-scan.was ∙ c.scan.ensures.answer))

pub returns : goal.returns
returns c =
    λ x a h. targets_passed _ _ _ _ _ c.targets.ensures _ c.map_err.ensures.cases x _ a
    (code_held _ _ _ x a 8192 _ (omega arith) c.scan.ensures.map) c.in_ok-map_err.was _ c.check_entries.ensures
    ∙ code_stopped _ _ _ x a _ (sym c.in_ok-scan.was ∙ c.scan.ensures.answer)
