use Rattle.std.specs.Prelude.{◌≡◌, ◌*◌, ◌-◌, ◌/◌, length, drop}
use Rattle.words.specs.Lists.{member}
use Rattle.words.specs.Bytes.{words_in, words_of}
use Rattle.keys.proofs.slots.listed.Given as goal

-- the slots from i on decide
abbrev pub invariant-loop-i : goal.invariant-loop-i
invariant-loop-i l = member l.x (words_in l.list) ≡ member l.x (words_of (length l.list / 8 - l.i) (drop (l.i * 8) l.list))
