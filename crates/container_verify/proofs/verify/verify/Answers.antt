-- `verify` meets its contract: the bytes are read, then the checks decide. Assumes nothing.
use Rattle.std.specs.Prelude.{Result}
use Rattle.std.proofs.lemmas.Result.{err_from_is_err_and}
use Rattle.std.proofs.Common.{◌≡◌, sym, ap, ◌∙◌, arith}
use Rattle.container.specs.Reader.{read_of}
use Rattle.container_verify.specs.Verify.{verified_of}
use Rattle.container.specs.ReadToldLaws.{ReadTold, read_told, refused_told, laid, code_within}
use Rattle.container_verify.specs.VerifyLaws.{verdict, verdict_is}
use Rattle.container_verify.proofs.verify.verify.Goals as goal
use Rattle.container_verify.proofs.verify.verify.Goals.{After-check_all, In_ok-l}
use Rattle.container_verify.specs.declared.verify.VerifyError.{VerifyError}

-- the container that was read
told : (c : In_ok-l) → ReadTold c.args.s.now c.in_ok-l.l
told c = read_told c.args.s.now _ c.in_ok-l.ensures

pub overflow_add-l : goal.overflow_add-l
overflow_add-l c = omega (arith, code_within _ _ (told (goal.at-overflow_add-l c).In_ok-l))

pub slice_bounds-check_all-end : goal.slice_bounds-check_all-end
slice_bounds-check_all-end c = omega (arith, code_within _ _ (told (goal.at-slice_bounds-check_all-end c).In_ok-l))

pub returns-in_err-l : goal.returns-in_err-l
unfolding verified_of
returns-in_err-l c =
    let p = err_from_is_err_and c.from_residual.result c.from_residual.ensures.1 in
    rw (p.1, p.2, refused_told c.args.s.now _ c.in_err-l.ensures)

-- what the checks found decides
checked : (c : After-check_all) → verdict c.check_all.result c.in_ok-l.l ≡ verified_of (read_of c.args.s.now)
checked c = let r = told (goal.at-After-check_all c).In_ok-l in verdict_is _ _ r _ (c.check_all.ensures _ (laid _ _ r))

pub returns-in_err-check_all : goal.returns-in_err-check_all
returns-in_err-check_all c =
    let p = err_from_is_err_and c.from_residual-in_err-check_all.result c.from_residual-in_err-check_all.ensures.1 in
    rw (p.1, p.2) (ap (λ (x : Result Unit VerifyError). verdict x c.in_ok-l.l) (sym c.in_err-check_all.was) ∙ checked (goal.at-returns-in_err-check_all c).After-check_all)

pub returns : goal.returns
returns c = ap (λ (x : Result Unit VerifyError). verdict x c.in_ok-l.l) (sym c.in_ok-check_all.was) ∙ checked (goal.at-returns c).After-check_all
