-- `effects::counts::events` meets its contract. Assumes nothing.
use mathlib.Core.Path.{◌∙◌}
use Rattle.effects.specs.CountLaws.{count_events}
use Rattle.effects.proofs.counts.events.Goals as goal

pub returns : goal.returns
returns c = λ es s e. c.count.ensures es s e ∙ count_events es
