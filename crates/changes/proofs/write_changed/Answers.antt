-- `changes::write_changed` meets its contract: what changed is written up to `to`, and what is left decides. Assumes nothing.
use Rattle.std.specs.Prelude.{◌≡◌, ◌*◌, take}
use Rattle.std.proofs.Common.{ap, ◌∙◌, arith}
use Rattle.std.specs.Slice.Iter.{chunks_exact_rest, chunks_exact_size}
use Rattle.changes.specs.LeftLaws.{whole_rows, rows_taken}
use Rattle.changes.specs.WriteLaws.{writing_start, writing_same, room_new, writing_new, writing_end}
use Rattle.changes.proofs.write_changed.Goals as goal

pub loop-row-init : goal.loop-row-init
loop-row-init c =
    let t = c.args.changes in
    let e = c.into_iter-row-iterator.ensures.into_iter_gives in
    let r : chunks_exact_rest c.into_iter-row-iterator.result ≡ take (t.count * 40) t.bytes.now =
    ap chunks_exact_rest e ∙ c.chunks_exact-row-items.ensures.rest in
    record {
      size = ap chunks_exact_size e ∙ c.chunks_exact-row-items.ensures.size;
      writing = writing_start _ (ap whole_rows r ∙ rows_taken t.count t.bytes.now t.table.fits) c.requires;
    }

pub copy_in-requires : goal.copy_in-requires
copy_in-requires c =
    let (cut, size) = c.in-Some.ensures.steps.1 in
    let l = size ∙ c.loop-row.invariant.size in
    omega (arith, room_new c.loop-row.invariant.writing _ _ cut l c.if-not-unchanged.ensures, l)

pub loop-row-preserved-then-not-unchanged : goal.loop-row-preserved-then-not-unchanged
loop-row-preserved-then-not-unchanged c =
    let (cut, size) = c.in-Some.ensures.steps.1 in
    record {
      size = c.in-Some.ensures.steps.0 ∙ c.loop-row.invariant.size;
      writing = writing_new c.loop-row.invariant.writing _ _ cut (size ∙ c.loop-row.invariant.size) c.if-not-unchanged.ensures _ (λ i. (c.type_inv.out i).fits) c.copy_in.ensures;
    }

pub loop-row-preserved : goal.loop-row-preserved
loop-row-preserved c =
    let (cut, size) = c.in-Some.ensures.steps.1 in
    record {
      size = c.in-Some.ensures.steps.0 ∙ c.loop-row.invariant.size;
      writing = writing_same c.loop-row.invariant.writing _ _ cut (size ∙ c.loop-row.invariant.size) c.if-not-unchanged.ensures;
    }

pub returns : goal.returns
returns c = writing_end c.loop-row.invariant.writing (omega (arith, c.in-None.ensures.steps.1.0, c.loop-row.invariant.size))
