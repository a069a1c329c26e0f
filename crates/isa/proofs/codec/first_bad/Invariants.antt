use mathlib.Core.Path.{◌≡◌}
use lib.ListN.{drop}
use Rattle.isa.specs.Codec.{first_bad}
use Rattle.isa.proofs.codec.first_bad.Given as goal

abbrev pub invariant-loop-b : goal.invariant-loop-b
invariant-loop-b l = first_bad l.s ≡ first_bad (drop l.b-index l.s)
