-- `verdict::ok_line` meets its contract: three fields and the line's end, one after the other. Assumes nothing.
use Prim.Native.Nat.{◌≤◌}
use native.Mathlib.Omega.{arith}
use Rattle.text.specs.Ascii.{ascii}
use Rattle.text.specs.LaidLaws.{field_room}
use Rattle.lines.specs.VerdictLaws.{ok_laid}
use Rattle.lines.proofs.verdict.ok_line.Goals as goal
use Rattle.lines.proofs.verdict.ok_line.Goals.{After-field-a, After-field-b, After-field-c}

-- where each field may end
code_ends : (c : After-field-a) → c.field-a.result ≤ 28
code_ends c = omega (arith, field_room _ _ _ _ _ _ c.field-a.ensures)

consts_end : (c : After-field-b) → c.field-b.result ≤ 56
consts_end c = omega (arith, code_ends (goal.at-After-field-b c).After-field-a, field_room _ _ _ _ _ _ c.field-b.ensures)

entries_end_lem : (c : After-field-c) → c.field-c.result ≤ 85
entries_end_lem c = omega (arith, consts_end (goal.at-After-field-c c).After-field-b, field_room _ _ _ _ _ _ c.field-c.ensures)

pub field-b-requires : goal.field-b-requires
field-b-requires c = omega (arith, code_ends (goal.at-field-b-requires c).After-field-a, c.field-a.auto.out)

pub field-c-requires : goal.field-c-requires
field-c-requires c =
    omega (arith, consts_end (goal.at-field-c-requires c).After-field-b, c.field-b.auto.out, c.field-a.auto.out, c.requires)

pub put_bytes-requires : goal.put_bytes-requires
put_bytes-requires c =
    omega (arith, entries_end_lem (goal.at-put_bytes-requires c).After-field-c, c.field-c.auto.out, c.field-b.auto.out, c.field-a.auto.out, c.requires)

pub returns : goal.returns
unfolding ascii
returns c =
    ok_laid c.args.out.now _ _ _ _ c.args.l c.field-a.result c.field-b.result c.field-c.result c.put_bytes.result
    c.requires c.field-a.ensures c.field-b.ensures c.field-c.ensures c.put_bytes.ensures
