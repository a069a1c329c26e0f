use Rattle.std.proofs.Common.{◌-◌}
use Rattle.container.specs.OffsetLaws.{Searching}
use Rattle.container.proofs.offsets.find.Given as goal

abbrev pub invariant-loop-i : goal.invariant-loop-i
invariant-loop-i l = Searching l.s l.selector l.first l.n l.at (l.n - l._i)
