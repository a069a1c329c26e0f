-- `put` meets its contract. Assumes nothing.
use Rattle.std.specs.Prelude.{◌≡◌}
use Rattle.std.proofs.Common.{rules}
use Rattle.gateway.specs.Boundary.{words_into}
use Rattle.gateway.specs.BoundaryLaws.{too_long, fitting}
use Rattle.gateway.proofs.answer.put.Goals as goal

pub returns-then-t-n : goal.returns-then-t-n
returns-then-t-n c = too_long c.args.words.now c.args.t.now c.if-t-n.true

pub returns : goal.returns
unfolding words_into
returns c =
    let a = c.args in
    let left : _ ≡ words_into a.words.now a.t.now = search rules in
    fitting a.words.now a.t.now _ c.if-t-n.false left
