use Rattle.std.proofs.Common.{length}
use Rattle.replay_key_steps.proofs.runs.Given as goal

abbrev pub decreases-loop-length : goal.decreases-loop-length
decreases-loop-length g l = length l.rest
