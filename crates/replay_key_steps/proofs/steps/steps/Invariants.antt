use Rattle.replay_key_steps.specs.Sound.{Sound}
use Rattle.replay_key_steps.proofs.steps.steps.Given as goal

abbrev pub invariant-loop-step : goal.invariant-loop-step
invariant-loop-step g l = Sound l.tables
