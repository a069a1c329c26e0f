use Rattle.std.specs.Prelude.{◌≡◌}
use Rattle.std.specs.Slice.Iter.{chunks_exact_rest, chunks_exact_size}
use Rattle.replies.specs.Walks.{good_rest}
use Rattle.replies.proofs.rows.check_replies.Given as goal

-- the rows that are left decide
abbrev pub invariant-loop-row : goal.invariant-loop-row
invariant-loop-row l = record {
  size : chunks_exact_size l.row-iterator ≡ 48;
  left : good_rest l.s ≡ good_rest (chunks_exact_rest l.row-iterator);
}
