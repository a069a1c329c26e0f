-- `answer::used_line` meets its contract: two fields. Assumes nothing.
use native.Mathlib.Omega.{arith}
use Rattle.text.specs.LaidLaws.{field_room}
use Rattle.text.specs.Ascii.{ascii}
use Rattle.lines.specs.AnswerLaws.{used_laid}
use Rattle.lines.proofs.answer.used_line.Goals as goal

pub field-requires : goal.field-requires
field-requires c =
    omega (arith, field_room _ _ _ _ _ _ c.field-a.ensures, c.field-a.auto.out, c.requires)

pub returns : goal.returns
unfolding ascii
returns c =
    let a = c.args in
    used_laid a.out.now _ _ a.used a.limit c.field-a.result c.field.result
    c.requires c.field-a.ensures c.field.ensures
