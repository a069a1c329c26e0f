-- `put` meets its contract: what is laid over what, from the first byte on. Assumes nothing.
use mathlib.Core.Path.{sym, ◌∙◌}
use native.Mathlib.Omega.{arith}
use lib.ListN.{length-set}
use lib.Seq.{length-take-le}
use Rattle.isa.specs.EncodeLaws.{put_all}
use Rattle.isa.proofs.codec.put.Goals as goal

pub slice_bounds-copy_in-end : goal.slice_bounds-copy_in-end
slice_bounds-copy_in-end c = sym (length-take-le c.args.n c.args.r.now c.requires.1)

pub copy_in-requires : goal.copy_in-requires
copy_in-requires c =
    rw (length-set, length-take-le c.args.n c.args.r.now c.requires.1) (omega arith)

pub write-requires : goal.write-requires
write-requires c = omega (arith, simp length-set at c.copy_in.auto.t)

pub shape_of-out : goal.shape_of-out
shape_of-out c =
    c.write.auto.t ∙ (simp length-set at c.copy_in.auto.t)

pub returns : goal.returns
returns c =
    let a = c.args in
    put_all a.out.now a.r.now a.byte a.n a.w a.num c.requires.0 c.requires.1 _ _ c.copy_in.ensures c.write.ensures
