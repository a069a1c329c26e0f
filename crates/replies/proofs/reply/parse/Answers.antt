-- `replies::reply::parse` meets its contract. Assumes nothing.
use Rattle.replies.specs.ReplyLaws.{parsed}
use Rattle.replies.proofs.reply.parse.Goals as goal

pub returns : goal.returns
returns c = parsed c.args.row.now _ _ _ c.read.ensures c.read-2.ensures c.copy_from_slice.ensures.after
