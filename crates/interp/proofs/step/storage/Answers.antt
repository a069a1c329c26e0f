-- `storage` meets its contract. Assumes nothing.
use Rattle.std.proofs.Common.{refl}
use Rattle.interp.specs.StepLaws.{access_steps}
use Rattle.interp.proofs.step.storage.Goals as goal

pub returns-clause-steps : goal.returns-clause-steps
returns-clause-steps c = λ i k. access_steps _ i _ _ _ k _ _ _ _ _ _ _ _ _ _ _ _ _ refl c.access.ensures
