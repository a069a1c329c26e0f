-- `replies::reply::all_zero` meets its contract. Assumes nothing.
use Rattle.std.proofs.Common.{arith}
use Rattle.std.proofs.lemmas.Grind.{common_steps}
use Rattle.replies.specs.ReplyLaws.{zeros_exactly}
use Rattle.replies.proofs.reply.all_zero.Goals as goal

pub returns : goal.returns
returns c = zeros_exactly _ _ (grind (arith, common_steps))
