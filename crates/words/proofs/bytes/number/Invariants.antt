use mathlib.Core.Path.{◌≡◌}
use Prim.Native.Nat.{◌^◌, ◌<◌}
use lib.ListN.{drop}
use Rattle.words.specs.Bytes.{num, num_from}
use Rattle.words.proofs.bytes.number.Given as goal

abbrev pub invariant-loop-x : goal.invariant-loop-x
invariant-loop-x l = (l.v < 256 ^ l.x-index) × (num l.b ≡ num_from l.v (drop l.x-index l.b))
