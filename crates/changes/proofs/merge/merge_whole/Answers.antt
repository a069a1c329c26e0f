-- `merge::merge_whole` meets its contract: the store is copied, and the changes are put into it. Assumes nothing.
use mathlib.Core.Path.{ap, ◌∙◌}
use native.Mathlib.Omega.{arith}
use Rattle.tables.specs.Content.{content}
use Rattle.tables.specs.LayoutLaws.{rows_length}
use Rattle.changes.specs.Merge.{merged}
use Rattle.changes.specs.MergeLaws.{copied_rows, copied_table, copied_rest, merges_short, merges_rows}
use Rattle.changes.proofs.merge.merge_whole.Goals as goal

pub returns-then-out-store : goal.returns-then-out-store
returns-then-out-store c = let whole =
    let cs = c.args.changes in
    let ss = c.args.store in
    merges_short (content cs) (content ss) c.args.out.now cs.count ss.count
    (rows_length 40 cs.count cs.bytes.now) (rows_length 40 ss.count ss.bytes.now) c.if-out-store.true
    in record { answer = whole.0; output = whole.1 }

pub put_rows-requires : goal.put_rows-requires
put_rows-requires c =
    let kept = c.copy_in.auto.t in
    let room = c.if-out-store.false in
    let ss = c.args.store in (
      copied_table ss.bytes.now c.args.out.now _ ss.count c.requires c.copy_in.ensures (omega (arith, kept, room)) ss.table,
      omega (arith, kept, room),
    )

pub returns : goal.returns
returns c = let whole =
    let cs = c.args.changes in
    let ss = c.args.store in
    let out = c.args.out.now in
    let e = c.copy_in.ensures in
    merges_rows (content cs) (content ss) out cs.count ss.count
    (rows_length 40 cs.count cs.bytes.now) (rows_length 40 ss.count ss.bytes.now) c.if-out-store.false _ _ c.put_rows.result
    (c.put_rows.auto.t ∙ c.copy_in.auto.t) (λ j. (c.type_inv.out j).fits)
    (copied_rest ss.bytes.now out _ ss.count c.requires e)
    (c.put_rows.ensures.0 ∙ ap (merged (content cs)) (copied_rows ss.bytes.now out _ ss.count c.requires e)) c.put_rows.ensures.1
    in record { answer = whole.0; output = whole.1 }
