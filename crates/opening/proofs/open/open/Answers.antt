-- `open` meets its contract: the container is read, the tables are checked, then the entry decides. Assumes nothing.
use Rattle.std.proofs.Common.{sym, ◌∙◌, arith}
use Rattle.container.specs.ReadToldLaws.{ReadTold, read_told, refused_told, code_within}
use Rattle.opening.specs.Opened.{numbered, Opens}
use Rattle.opening.specs.OpenLaws.{unreadable, bad_tables, numbered_err, entered}
use Rattle.opening.proofs.open.open.Goals as goal
use Rattle.opening.proofs.open.open.Goals.{In_ok-l, After-enter}

-- the container that was read
told : (c : In_ok-l) → ReadTold c.args.container.now c.in_ok-l.l
told c = read_told _ _ (sym c.in_ok-l.was ∙ c.read.ensures)

-- what the entry decides
decided : (c : After-enter) → Opens c.args.call c.args.container.now c.args.store.now c.args.loader.now c.args.replies.now (numbered c.enter.result)
decided c =
    let a = c.args in
    entered a.call _ a.store.now a.loader.now a.replies.now _ (told (goal.at-After-enter c).In_ok-l) _ c.check.ensures _ c.in_ok-lent.was
    (λ k. (c.type_inv.container k).fits) c.enter.result c.enter.ensures

pub returns-in_err-l : goal.returns-in_err-l
returns-in_err-l c =
    let a = c.args in
    unreadable a.call _ a.store.now a.loader.now a.replies.now _ (refused_told _ _ (sym c.in_err-l.was ∙ c.read.ensures)) _ c.from_residual.ensures.1

pub returns-in_err-lent : goal.returns-in_err-lent
returns-in_err-lent c =
    let a = c.args in
    bad_tables a.call _ a.store.now a.loader.now a.replies.now _ (told (goal.at-returns-in_err-lent c).In_ok-l) _ c.check.ensures _ c.in_err-lent.was _
    c.from_residual-in_err-lent.ensures.1

pub overflow_add-code : goal.overflow_add-code
overflow_add-code c = omega (arith, code_within _ _ (told (goal.at-overflow_add-code c).In_ok-l))

pub slice_bounds-code-end : goal.slice_bounds-code-end
slice_bounds-code-end c = omega (arith, code_within _ _ (told (goal.at-slice_bounds-code-end c).In_ok-l))

pub returns-in_err-enter : goal.returns-in_err-enter
returns-in_err-enter c =
    let a = c.args in
    numbered_err a.call _ a.store.now a.loader.now a.replies.now _ _ c.in_err-enter.was (decided (goal.at-returns-in_err-enter c).After-enter) _
    c.from_residual-in_err-enter.ensures.1

pub returns : goal.returns
returns c = rw c.in_ok-enter.was at (decided (goal.at-returns c).After-enter)
