-- `effect::transfer_line` meets its contract: three pieces, one after the other. Assumes nothing.
use native.Mathlib.Omega.{arith}
use Rattle.text.specs.LaidLaws.{field_room}
use Rattle.text.specs.Ascii.{ascii}
use Rattle.lines.specs.EffectLaws.{transfer_laid}
use Rattle.lines.proofs.effect.transfer_line.Goals as goal

pub put_bytes-b-requires : goal.put_bytes-b-requires
put_bytes-b-requires c =
    omega (arith, field_room _ _ _ _ _ _ c.field-a.ensures, c.field-a.auto.out, c.requires)

pub hex-requires : goal.hex-requires
hex-requires c =
    let ends = field_room _ _ _ _ _ _ c.field-a.ensures in
    omega (arith, ends, c.put_bytes-b.ensures.end, c.field-a.auto.out, c.put_bytes-b.auto.out, c.requires)

pub returns : goal.returns
unfolding ascii
returns c =
    let a = c.args in
    transfer_laid a.out.now _ _ _ a.target.now a.amount c.field-a.result c.put_bytes-b.result c.hex.result
    c.requires c.field-a.ensures c.put_bytes-b.ensures c.hex.ensures
