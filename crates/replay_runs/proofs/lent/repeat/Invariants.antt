use Rattle.std.proofs.Common.{◌≤◌, length}
use Rattle.replay_runs.proofs.lent.repeat.Given as goal

abbrev pub invariant-loop : goal.invariant-loop
invariant-loop l = l.at ≤ length l.t
