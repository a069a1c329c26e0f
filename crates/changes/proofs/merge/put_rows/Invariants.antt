use Rattle.std.specs.Prelude.{◌≡◌}
use Rattle.std.specs.Slice.Iter.{chunks_exact_rest, chunks_exact_size}
use Rattle.tables.specs.Content.{content}
use Rattle.changes.specs.MergeLaws.{Putting}
use Rattle.changes.proofs.merge.put_rows.Given as goal

abbrev pub invariant-loop-row : goal.invariant-loop-row
invariant-loop-row l = record {
  size : chunks_exact_size l.row-iterator ≡ 40;
  putting : Putting (content l.changes) l.changes.count l.initial.t l.m l.t l.k (chunks_exact_rest l.row-iterator);
}
