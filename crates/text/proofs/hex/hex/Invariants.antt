use Rattle.std.proofs.Common.{◌≡◌, ◌*◌}
use Rattle.std.proofs.Math.Seq.{paste}
use Rattle.text.specs.Hex.{hex_of}
use Rattle.text.proofs.hex.hex.Given as goal

-- the digits of the first i bytes are laid down
abbrev pub invariant-loop-i : goal.invariant-loop-i
invariant-loop-i l = l.out ≡ paste l.initial.out l.at (hex_of l.s) (l.i * 2)
