-- `words::bytes::write` meets its contract. Assumes nothing.
use mathlib.Core.Path.{refl, sym, ◌∙◌}
use Prim.Native.Nat.{◌-◌}
use native.Mathlib.Omega.{arith}
use lib.ListN.{length-set}
use Rattle.words.specs.BytesLaws.{write_turn, write_end}
use Rattle.words.proofs.bytes.write.Goals as goal

pub loop-i-preserved : goal.loop-i-preserved
loop-i-preserved c =
    let l = c.loop-i in
    (omega arith, l.invariant.1 ∙ write_turn l.t c.args.at l.i (l.i - 1) l.x (omega arith) (omega arith), simp length-set l.invariant.2)

pub shape_of-t : goal.shape_of-t
shape_of-t c = c.loop-i.invariant.2

pub returns : goal.returns
returns c = let l = c.loop-i in sym (l.invariant.1 ∙ write_end l.t c.args.at l.i l.x (omega arith))

pub loop-i-init : goal.loop-i-init
loop-i-init c = (omega arith, refl, refl)
