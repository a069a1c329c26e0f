-- `answer::change_line` meets its contract: the key's digits, then the value. Assumes nothing.
use mathlib.Core.Path.{◌≡◌, sym}
use native.Mathlib.Omega.{arith}
use lib.ListN.{length, take}
use lib.Seq.{length-take-le}
use Rattle.text.specs.Ascii.{ascii}
use Rattle.text.specs.HexLaws.{length_hex}
use Rattle.lines.specs.AnswerLaws.{change_laid}
use Rattle.lines.proofs.answer.change_line.Goals as goal
use Rattle.lines.proofs.answer.change_line.Goals.{Start}

-- the key's bytes
key_size : (start : Start) → length (take 32 start.args.row.now) ≡ 32
key_size start = length-take-le 32 start.args.row.now (omega (arith, start.requires.1))

pub slice_bounds-hex-end : goal.slice_bounds-hex-end
slice_bounds-hex-end c = sym (key_size (goal.at-slice_bounds-hex-end c).Start)

pub hex-a-requires : goal.hex-a-requires
hex-a-requires c = omega (arith, key_size (goal.at-hex-a-requires c).Start, c.requires.0)

pub field-requires : goal.field-requires
field-requires c =
    omega (arith, c.hex-a.ensures.end, length_hex (take 32 c.args.row.now), key_size (goal.at-field-requires c).Start, c.hex-a.auto.out, c.requires.0)

pub returns : goal.returns
unfolding ascii
returns c =
    change_laid c.args.out.now _ _ c.args.row.now c.read.result c.hex-a.result c.field.result
    c.requires.0 c.requires.1 c.read.ensures c.hex-a.ensures c.field.ensures
