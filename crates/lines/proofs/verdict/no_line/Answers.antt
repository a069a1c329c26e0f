-- `verdict::no_line` meets its contract: two fields and the line's end, one after the other. Assumes nothing.
use Prim.Native.Nat.{◌≤◌}
use native.Mathlib.Omega.{arith}
use Rattle.text.specs.Ascii.{ascii}
use Rattle.text.specs.LaidLaws.{field_room}
use Rattle.lines.specs.VerdictLaws.{no_laid}
use Rattle.lines.proofs.verdict.no_line.Goals as goal
use Rattle.lines.proofs.verdict.no_line.Goals.{After-field-a, After-field-b}

-- where each field may end
number_ends : (c : After-field-a) → c.field-a.result ≤ 23
number_ends c = omega (arith, field_room _ _ _ _ _ _ c.field-a.ensures)

argument_ends : (c : After-field-b) → c.field-b.result ≤ 44
argument_ends c = omega (arith, number_ends (goal.at-After-field-b c).After-field-a, field_room _ _ _ _ _ _ c.field-b.ensures)

pub field-b-requires : goal.field-b-requires
field-b-requires c = omega (arith, number_ends (goal.at-field-b-requires c).After-field-a, c.field-a.auto.out)

pub put_bytes-requires : goal.put_bytes-requires
put_bytes-requires c =
    omega (arith, argument_ends (goal.at-put_bytes-requires c).After-field-b, c.field-b.auto.out, c.field-a.auto.out, c.requires)

pub returns : goal.returns
unfolding ascii
returns c =
    let a = c.args in
    no_laid a.out.now _ _ _ a.why c.field-a.result c.field-b.result c.put_bytes.result
    c.requires c.field-a.ensures c.field-b.ensures c.put_bytes.ensures
