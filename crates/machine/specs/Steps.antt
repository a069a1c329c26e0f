-- What a step comes to.
use Rattle.words.specs.declared.refusal.Refusal.{Refusal}
use Rattle.machine.specs.Machine.{Machine}

-- the run goes on, halts, or faults
pub data Step : Type 0 where
  next : Machine → Step
  halt : Machine → Step
  fault : Refusal → Step
