use Rattle.std.specs.Prelude.{◌≡◌, ◌+◌, ◌*◌, ◌≤◌, length}
use Rattle.std.specs.Slice.Iter.{chunks_exact_rest, chunks_exact_size}
use Rattle.tables.specs.Content.{content}
use Rattle.changes.specs.ChangeList.{changed}
use Rattle.changes.specs.Changed.{changed_in}
use Rattle.changes.specs.LeftLaws.{whole_rows}
use Rattle.changes.proofs.count_changed.Given as goal

-- k changed so far, and what is left decides
abbrev pub invariant-loop-row : goal.invariant-loop-row
invariant-loop-row l = let r = chunks_exact_rest l.row-iterator in record {
  size : chunks_exact_size l.row-iterator ≡ 40;
  fits : l.k * 40 + length r ≤ l.changes.count * 40;
  left : length (changed_in l.changes l.store l.loader) ≡ l.k + length (changed (content l.store) (content l.loader) (whole_rows r));
}
