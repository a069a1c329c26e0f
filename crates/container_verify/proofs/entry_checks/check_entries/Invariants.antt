use Rattle.std.proofs.Common.{◌≡◌, ◌-◌, length, take}
use Rattle.container_verify.specs.CheckLaws.{Checking}
use Rattle.container_verify.proofs.entry_checks.check_entries.Given as goal

abbrev pub invariant-loop-i : goal.invariant-loop-i
invariant-loop-i l = (length l.seen ≡ 256) × Checking l.s l.map l.first l.n (l.n - l.i) l.at (take l.i l.seen)
