use Rattle.std.proofs.Common.{◌≡◌, Some, drop}
use Rattle.text.specs.Number.{parsed_from, parsed_of}
use Rattle.text.proofs.number.parse.Given as goal

-- what is left decides
abbrev pub invariant-loop-x : goal.invariant-loop-x
invariant-loop-x l = parsed_of l.s ≡ parsed_from (Some l.n) (drop l.x-index l.s)
