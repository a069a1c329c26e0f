-- `words::bytes::number` meets its contract where there are eight bytes. Assumes nothing.
use Rattle.std.proofs.Common.{ap, ◌∙◌}
use Rattle.std.specs.Int.{from_be_bytes, w64}
use Rattle.words.proofs.Eight.{eight}
use Rattle.words.proofs.bytes.number.Goals as goal

pub returns-in-Some : goal.returns-in-Some
returns-in-Some c =
    let whole = c.in-Some.ensures.cases in
    c.from_be_bytes.ensures ∙ ap (from_be_bytes w64) whole.same ∙ eight c.args.b.now whole.long
