-- `first_bad` meets its contract. The loop's invariant: what is left of the registers decides. Assumes nothing.
use mathlib.Core.Path.{sym, ◌∙◌}
use native.Mathlib.Omega.{arith}
use Rattle.isa.specs.DecodeLaws.{bad_end}
use Rattle.isa.proofs.codec.first_bad.Goals as goal

pub returns : goal.returns
returns c = sym (c.loop-b.invariant ∙ bad_end c.args.s.now c.loop-b.b-index (omega arith))
