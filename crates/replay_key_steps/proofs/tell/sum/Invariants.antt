use Rattle.std.proofs.Common.{◌<◌}
use Rattle.replay_key_steps.proofs.tell.sum.Given as goal

abbrev pub invariant-loop-b : goal.invariant-loop-b
invariant-loop-b l = l.s < 4294967291
