-- The log has the length that it is lent with, which no proof counts byte by byte.
use Rattle.print.specs.ZeroLaws.{as_many}
use Rattle.settle.proofs.with_log.Goals as goal

pub slice_bounds-run-end : goal.slice_bounds-run-end
slice_bounds-run-end g c = as_many 1048576
