use Rattle.std.proofs.Common.{◌<◌}
use Rattle.replay_runs.proofs.shown.checksum.Given as goal

abbrev pub invariant-loop-x : goal.invariant-loop-x
invariant-loop-x g l = l.sum < 4294967291
