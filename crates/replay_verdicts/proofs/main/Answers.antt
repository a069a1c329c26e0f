-- The lengths of what is lent and of what was read, which no proof counts byte by byte.
use Rattle.std.proofs.Common.{sym, length-take-le}
use Rattle.print.specs.ZeroLaws.{as_many}
use Rattle.replay_verdicts.proofs.main.Goals as goal

pub slice_bounds-fill-end : goal.slice_bounds-fill-end
slice_bounds-fill-end c = as_many 655360

pub slice_bounds-buffer-end : goal.slice_bounds-buffer-end
slice_bounds-buffer-end c = c.in_ok-got.ensures.bound

pub slice_bounds-lines-end : goal.slice_bounds-lines-end
slice_bounds-lines-end c = sym (length-take-le c.in_ok-got.got c.fill.new.t c.in_ok-got.ensures.bound)
