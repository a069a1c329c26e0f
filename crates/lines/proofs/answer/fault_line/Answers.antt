-- `answer::fault_line` meets its contract: four pieces, one after the other. Assumes nothing.
use Prim.Native.Nat.{◌≤◌}
use native.Mathlib.Omega.{arith}
use Rattle.text.specs.LaidLaws.{field_room}
use Rattle.text.specs.Ascii.{ascii}
use Rattle.lines.specs.NameLaws.{length_name}
use Rattle.lines.specs.AnswerLaws.{length_word, fault_laid}
use Rattle.lines.proofs.answer.fault_line.Goals as goal
use Rattle.lines.proofs.answer.fault_line.Goals.{After-field-a, After-put_bytes-b, After-put_bytes-c}

-- where each piece may end
word_ends : (c : After-field-a) → c.field-a.result ≤ 28
word_ends c = omega (arith, rw c.end_word.ensures at (field_room _ _ _ _ _ _ c.field-a.ensures), length_word c.args.fetches)

space_ends : (c : After-put_bytes-b) → c.put_bytes-b.result ≤ 29
space_ends c = omega (arith, word_ends (goal.at-After-put_bytes-b c).After-field-a, c.put_bytes-b.ensures.end)

name_ends : (c : After-put_bytes-c) → c.put_bytes-c.result ≤ 53
name_ends c = omega (arith, space_ends (goal.at-After-put_bytes-c c).After-put_bytes-b, rw c.name_of.ensures at c.put_bytes-c.ensures.end, length_name c.args.number)

pub field-a-requires : goal.field-a-requires
field-a-requires c = rw c.end_word.ensures (omega (arith, length_word c.args.fetches, c.requires))

pub put_bytes-b-requires : goal.put_bytes-b-requires
put_bytes-b-requires c =
    omega (arith, word_ends (goal.at-put_bytes-b-requires c).After-field-a, c.field-a.auto.out, c.requires)

pub put_bytes-c-requires : goal.put_bytes-c-requires
put_bytes-c-requires c =
    rw c.name_of.ensures
    (omega (arith, length_name c.args.number, space_ends (goal.at-put_bytes-c-requires c).After-put_bytes-b, c.field-a.auto.out, c.put_bytes-b.auto.out, c.requires))

pub field-requires : goal.field-requires
field-requires c =
    omega (arith, name_ends (goal.at-field-requires c).After-put_bytes-c, c.field-a.auto.out, c.put_bytes-b.auto.out, c.put_bytes-c.auto.out, c.requires)

pub returns : goal.returns
unfolding ascii
returns c =
    let a = c.args in
    fault_laid a.out.now _ _ _ _ a.number a.argument a.fetches
    c.field-a.result c.put_bytes-b.result c.put_bytes-c.result c.field.result
    c.requires (rw c.end_word.ensures at c.field-a.ensures) c.put_bytes-b.ensures (rw c.name_of.ensures at c.put_bytes-c.ensures) c.field.ensures
