use Rattle.std.proofs.Common.{length}
use Rattle.replay_codec.proofs.lines.Given as goal

abbrev pub decreases-loop-head : goal.decreases-loop-head
decreases-loop-head g l = length l.rest
