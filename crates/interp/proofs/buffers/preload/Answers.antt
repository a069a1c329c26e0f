-- `preload` meets its contract. Assumes nothing.
use mathlib.Core.Path.{sym}
use native.Mathlib.Omega.{arith}
use lib.ListN.{length}
use lib.Seq.{length-take-le}
use Rattle.interp.specs.BufferLaws.{preload_short, preload_long}
use Rattle.interp.proofs.buffers.preload.Goals as goal

pub slice_bounds-copy_in-end : goal.slice_bounds-copy_in-end
slice_bounds-copy_in-end c =
    sym (length-take-le (length c.args.memory.now) c.args.preload.now (omega arith))

pub copy_in-requires-else-preload-n : goal.copy_in-requires-else-preload-n
copy_in-requires-else-preload-n c =
    let m = c.args.memory.now in
    let p = c.args.preload.now in
    omega (arith, length-take-le (length m) p (omega (arith, c.if-preload-n.false)))

pub returns-then-preload-n : goal.returns-then-preload-n
returns-then-preload-n c =
    preload_short c.args.memory.now c.args.preload.now _ c.if-preload-n.true c.copy_in.ensures

pub returns-else-preload-n : goal.returns-else-preload-n
returns-else-preload-n c =
    preload_long c.args.memory.now c.args.preload.now _ c.if-preload-n.false c.copy_in-else-preload-n.ensures
