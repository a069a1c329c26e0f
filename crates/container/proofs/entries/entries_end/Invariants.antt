use Rattle.std.proofs.Common.{◌≡◌, ◌-◌, drop}
use Rattle.container.specs.Reader.{entries}
use Rattle.container.specs.Entries.{entries_end}
use Rattle.container.proofs.entries.entries_end.Given as goal

abbrev pub invariant-loop-i : goal.invariant-loop-i
invariant-loop-i l = entries_end l.first (entries l.n (drop l.first l.s)) ≡ entries_end l.at (entries (l.n - l._i) (drop l.at l.s))
