-- `effect::event_line` meets its contract: five pieces, one after the other. Assumes nothing.
use Prim.Native.Nat.{◌≤◌}
use native.Mathlib.Omega.{arith}
use Rattle.text.specs.LaidLaws.{field_room}
use Rattle.text.specs.Ascii.{ascii}
use Rattle.lines.specs.EffectLaws.{length_selector, event_laid}
use Rattle.lines.proofs.effect.event_line.Goals as goal
use Rattle.lines.proofs.effect.event_line.Goals.{After-field-c, After-selector-b}

-- where each piece may end
selector_ends : (c : After-selector-b) → c.selector-b.result ≤ 14
selector_ends c = omega (arith, c.put_bytes-a.ensures.end, c.selector-b.ensures.end, length_selector c.args.word)

count_ends : (c : After-field-c) → c.field-c.result ≤ 42
count_ends c = omega (arith, selector_ends (goal.at-After-field-c c).After-selector-b, field_room _ _ _ _ _ _ c.field-c.ensures)

pub field-c-requires : goal.field-c-requires
field-c-requires c =
    omega (arith, selector_ends (goal.at-field-c-requires c).After-selector-b, c.put_bytes-a.auto.out, c.selector-b.auto.out, c.requires)

pub put_bytes-d-requires : goal.put_bytes-d-requires
put_bytes-d-requires c =
    omega (arith, count_ends (goal.at-put_bytes-d-requires c).After-field-c, c.put_bytes-a.auto.out, c.selector-b.auto.out, c.field-c.auto.out, c.requires)

pub hex-requires : goal.hex-requires
hex-requires c =
    omega (
      arith,
      count_ends (goal.at-hex-requires c).After-field-c,
      c.put_bytes-d.ensures.end,
      c.put_bytes-a.auto.out,
      c.selector-b.auto.out,
      c.field-c.auto.out,
      c.put_bytes-d.auto.out,
      c.requires,
    )

pub returns : goal.returns
unfolding ascii
returns c =
    let a = c.args in
    event_laid a.out.now _ _ _ _ _ a.bytes.now a.word
    c.put_bytes-a.result c.selector-b.result c.field-c.result c.put_bytes-d.result c.hex.result
    c.requires c.put_bytes-a.ensures c.selector-b.ensures c.field-c.ensures c.put_bytes-d.ensures
    c.hex.ensures
