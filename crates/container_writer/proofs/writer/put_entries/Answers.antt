-- `put_entries` meets its contract. The loop's invariant: what is left of the list are entries, and their bytes are left to lay down. Assumes nothing.
use mathlib.Core.Path.{refl}
use Rattle.container_writer.specs.Writer.{slots_in}
use Rattle.container_writer.specs.WriterLaidLaws.{rest_turn, rest_end, piece_room}
use Rattle.container_writer.specs.WriterLaws.{begins, more_at, more_next, bytes_at, bytes_after}
use Rattle.container_writer.proofs.writer.put_entries.Goals as goal

pub put_entry-end-requires : goal.put_entry-end-requires
put_entry-end-requires c =
    let l = c.loop-i in
    let s = l.rest.now in
    let b = more_at c.args.n l._i s c.loop-i-test.true l.invariant.0 in
    let e = bytes_at c.args.n l._i s c.loop-i-test.true l.invariant.0 (slots_in s) refl in
    (begins s b, piece_room _ _ (rw e at l.invariant.1))

pub slots-requires : goal.slots-requires
slots-requires c =
    let b = begins c.loop-i.rest.now (more_at c.args.n c.loop-i._i c.loop-i.rest.now c.loop-i-test.true c.loop-i.invariant.0) in
    (b.six, b.short)

pub loop-i-preserved : goal.loop-i-preserved
loop-i-preserved c =
    let l = c.loop-i in
    let e = bytes_at c.args.n l._i l.rest.now c.loop-i-test.true l.invariant.0 c.slots.result c.slots.ensures in
    (more_next c.args.n l._i l.rest.now c.loop-i-test.true l.invariant.0 c.slots.result c.slots.ensures, rest_turn (rw e at l.invariant.1) c.put_entry-end.ensures)

pub returns : goal.returns
returns c = rest_end (rw (bytes_after c.args.n c.loop-i._i c.loop-i.rest.now c.loop-i-test.false) at c.loop-i.invariant.1)
