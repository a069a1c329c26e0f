use Rattle.std.proofs.Common.{◌≡◌}
use Rattle.std.proofs.Math.Seq.{paste}
use Rattle.text.specs.Decimal.{last_digits}
use Rattle.text.proofs.decimal.put_digits.Given as goal

-- what is laid down and what is left to lay make all of the digits
abbrev pub invariant-loop-i : goal.invariant-loop-i
invariant-loop-i l = paste l.initial.out l.at (last_digits l.w l.n) l.w ≡ paste l.out l.at (last_digits l.i l.x) l.i
