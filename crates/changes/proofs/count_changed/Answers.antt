-- `changes::count_changed` meets its contract: k changed so far, and what is left decides. Assumes nothing.
use Rattle.std.specs.Prelude.{ℕ, ◌<◌, ◌≡◌, ◌*◌, length, take, false, true}
use Rattle.std.proofs.Common.{ap, ◌∙◌, arith, length-append, length-take-le}
use Rattle.std.specs.Slice.Iter.{chunks_exact_rest, chunks_exact_size}
use Rattle.tables.specs.Content.{content}
use Rattle.changes.specs.ChangeList.{changed}
use Rattle.changes.specs.LeftLaws.{whole_rows, rows_taken, left_by_lem, left_none}
use Rattle.changes.proofs.count_changed.Goals as goal

pub loop-row-init : goal.loop-row-init
loop-row-init c =
    let t = c.args.changes in
    let e = c.into_iter-row-iterator.ensures.into_iter_gives in
    let r : chunks_exact_rest c.into_iter-row-iterator.result ≡ take (t.count * 40) t.bytes.now =
    ap chunks_exact_rest e ∙ c.chunks_exact-row-items.ensures.rest in
    let all = ap whole_rows r ∙ rows_taken t.count t.bytes.now t.table.fits in
    record {
      size = ap chunks_exact_size e ∙ c.chunks_exact-row-items.ensures.size;
      fits = omega (arith, ap length r, length-take-le (t.count * 40) t.bytes.now t.table.fits);
      left = omega (arith, ap length (ap (changed (content c.args.store) (content c.args.loader)) all));
    }

pub loop-row-preserved-then-not-unchanged : goal.loop-row-preserved-then-not-unchanged
loop-row-preserved-then-not-unchanged c =
    let (cut, size) = c.in-Some.ensures.steps.1 in
    let l = size ∙ c.loop-row.invariant.size in
    record {
      size = c.in-Some.ensures.steps.0 ∙ c.loop-row.invariant.size;
      fits = omega (arith, c.loop-row.invariant.fits, ap length cut, length-append {A = ℕ}, l);
      left = omega (arith, c.loop-row.invariant.left, ap length (left_by_lem _ _ _ cut l _ _ false c.if-not-unchanged.ensures));
    }

pub loop-row-preserved : goal.loop-row-preserved
loop-row-preserved c =
    let (cut, size) = c.in-Some.ensures.steps.1 in
    let l = size ∙ c.loop-row.invariant.size in
    record {
      size = c.in-Some.ensures.steps.0 ∙ c.loop-row.invariant.size;
      fits = omega (arith, c.loop-row.invariant.fits, ap length cut, length-append {A = ℕ}, l);
      left = omega (arith, c.loop-row.invariant.left, ap length (left_by_lem _ _ _ cut l _ _ true c.if-not-unchanged.ensures));
    }

pub returns : goal.returns
returns c =
    let short : length (chunks_exact_rest c.loop-row.row-iterator) < 40 = omega (arith, c.in-None.ensures.steps.1.0, c.loop-row.invariant.size) in
    let none = left_none (content c.args.store) (content c.args.loader) _ short in
    omega (arith, c.loop-row.invariant.left, ap length none)
