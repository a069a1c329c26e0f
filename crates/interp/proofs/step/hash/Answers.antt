-- `hash` meets its contract. Assumes nothing.
use Rattle.std.proofs.Common.{refl}
use Rattle.interp.specs.StepLaws.{hash_steps}
use Rattle.interp.proofs.step.hash.Goals as goal

pub returns-clause-steps : goal.returns-clause-steps
returns-clause-steps c = λ i k. hash_steps _ i _ _ _ k _ _ _ _ _ _ _ _ _ _ _ _ _ _ _ refl c.hash.ensures
