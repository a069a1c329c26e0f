use Rattle.std.proofs.Common.{◌≡◌, ◌-◌, is_some}
use Rattle.container_writer.specs.Writer.{entries_in, listed}
use Rattle.container_writer.proofs.writer.is_list.Given as goal

abbrev pub invariant-loop-i : goal.invariant-loop-i
invariant-loop-i l = is_some (listed l.list) ≡ is_some (entries_in (l.n - l._i) l.rest)
