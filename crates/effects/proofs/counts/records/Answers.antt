-- `effects::counts::records` meets its contract. Assumes nothing.
use mathlib.Core.Path.{◌∙◌}
use Rattle.effects.specs.CountLaws.{count_all}
use Rattle.effects.proofs.counts.records.Goals as goal

pub returns : goal.returns
returns c = λ es s e. c.count.ensures es s e ∙ count_all es
