-- `effect::selector` meets its contract: the word's first four bytes. Assumes nothing.
use Rattle.std.specs.Prelude.{take}
use Rattle.std.proofs.Common.{sym, ap, ◌∙◌}
use Rattle.text.specs.Hex.{hex_of}
use Rattle.lines.specs.NameLaws.{laid_as}
use Rattle.lines.specs.EffectLaws.{first_four}
use Rattle.lines.proofs.effect.selector.Goals as goal

pub returns : goal.returns
returns c = laid_as (ap hex_of (sym (ap (take 4) c.to_be_bytes.ensures ∙ first_four c.args.word))) c.hex.ensures
