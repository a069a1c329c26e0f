-- `words::bytes::copy_in` meets its contract. Assumes nothing.
use mathlib.Core.Path.{◌≡◌, ap, ◌∙◌}
use native.Mathlib.Omega.{arith}
use lib.ListN.{length, length-set}
use lib.Seq.{paste}
use Rattle.words.specs.BytesLaws.{copy_turn}
use Rattle.words.proofs.bytes.copy_in.Goals as goal

pub loop-i-preserved : goal.loop-i-preserved
loop-i-preserved c = let l = c.loop-i in (omega arith, copy_turn _ _ _ _ _ (omega arith) (omega arith) l.invariant.1, simp length-set l.invariant.2)

pub returns : goal.returns
returns c =
    let l = c.loop-i in
    let a = c.args in
    let e : l.i ≡ length a.src.now = omega arith in
    l.invariant.1 ∙ ap (paste a.t.now a.at a.src.now) e
