-- `merge::put_rows` meets its contract: the rows so far are in, and what is left decides. Assumes nothing.
use Rattle.std.specs.Prelude.{◌≡◌, ◌*◌, length, take}
use Rattle.std.proofs.Common.{ap, ◌∙◌, arith, length-take-le}
use Rattle.std.specs.Slice.Iter.{chunks_exact_rest, chunks_exact_size}
use Rattle.changes.specs.LeftLaws.{whole_rows, rows_taken}
use Rattle.changes.specs.MergeLaws.{putting_start, putting_turn, putting_end}
use Rattle.changes.proofs.merge.put_rows.Goals as goal

pub loop-row-init : goal.loop-row-init
loop-row-init c =
    let t = c.args.changes in
    let e = c.into_iter-row-iterator.ensures.into_iter_gives in
    let r : chunks_exact_rest c.into_iter-row-iterator.result ≡ take (t.count * 40) t.bytes.now =
    ap chunks_exact_rest e ∙ c.chunks_exact-row-items.ensures.rest in
    record {
      size = ap chunks_exact_size e ∙ c.chunks_exact-row-items.ensures.size;
      putting = putting_start _ c.requires.0 (ap whole_rows r ∙ rows_taken t.count t.bytes.now t.table.fits) (ap length r ∙ length-take-le (t.count * 40) t.bytes.now t.table.fits);
    }

pub loop-row-preserved : goal.loop-row-preserved
loop-row-preserved c =
    let (cut, size) = c.in-Some.ensures.steps.1 in
    record {
      size = c.in-Some.ensures.steps.0 ∙ c.loop-row.invariant.size;
      putting = putting_turn c.loop-row.invariant.putting _ _ _ _ cut (size ∙ c.loop-row.invariant.size) c.put_row-k.auto.t c.put_row-k.ensures;
    }

pub returns : goal.returns
returns c = putting_end c.loop-row.invariant.putting (omega (arith, c.in-None.ensures.steps.1.0, c.loop-row.invariant.size))
