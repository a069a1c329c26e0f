use Rattle.std.specs.Prelude.{◌≤◌, length}
use Rattle.lines.specs.NewestLaws.{BeforeNewest}
use Rattle.lines.proofs.effect.end_before_newest.Given as goal

abbrev pub invariant-loop-i : goal.invariant-loop-i
invariant-loop-i l = (l.at ≤ length l.log) × BeforeNewest l.log l.at l._i
