use Rattle.std.specs.Prelude.{◌≡◌}
use Rattle.std.specs.Slice.Iter.{chunks_exact_rest, chunks_exact_size}
use Rattle.tables.specs.Content.{content}
use Rattle.changes.specs.WriteLaws.{Writing}
use Rattle.changes.proofs.write_changed.Given as goal

abbrev pub invariant-loop-row : goal.invariant-loop-row
invariant-loop-row l = record {
  size : chunks_exact_size l.row-iterator ≡ 40;
  writing : Writing (content l.store) (content l.loader) (content l.changes) l.initial.out l.out l.to (chunks_exact_rest l.row-iterator);
}
