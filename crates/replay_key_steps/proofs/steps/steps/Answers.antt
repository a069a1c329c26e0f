-- The tables are empty at first, and so good.
use Rattle.std.proofs.Common.{refl}
use Rattle.keys.specs.OpeningLaws.{opening_good}
use Rattle.replay_key_steps.proofs.steps.steps.Goals as goal

pub loop-step-init : goal.loop-step-init
loop-step-init g c = opening_good _ (record { changes = refl; fetched = refl; may_read = refl; may_write = refl; paid = refl })
