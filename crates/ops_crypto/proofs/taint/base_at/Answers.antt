-- `ops_crypto::taint::base_at` meets its contract: eight bytes, and in memory. Assumes nothing.
use Rattle.std.proofs.Common.{◌∙◌}
use Rattle.ops_crypto.specs.TaintLaws.{base_short, base_loaded}
use Rattle.ops_crypto.proofs.taint.base_at.Goals as goal

pub returns-then-len-lt8 : goal.returns-then-len-lt8
returns-then-len-lt8 c = base_short _ _ _ c.if-len-lt8.true

pub returns : goal.returns
returns c = c.mem_load.ensures ∙ base_loaded _ _ _ c.if-len-lt8.false
