-- `body` meets its contract: its parts stand one after the other. Assumes nothing.
use mathlib.Core.Path.{sym, ◌∙◌}
use native.Mathlib.Omega.{arith}
use Rattle.container.specs.ReaderLaws.{no_code, all_read}
use Rattle.container.proofs.reader.body.Goals as goal

pub returns-then-s-code : goal.returns-then-s-code
returns-then-s-code c = no_code c.args.s.now _ c.read-code.ensures (omega arith) c.if-s-code.true

pub returns : goal.returns
returns c =
    let k = sym c.in_ok-consts.ensures.ok_part ∙ c.counted_at.ensures in
    let e = sym c.in_ok-end.ensures.ok_part ∙ c.entries_end.ensures in
    all_read c.args.s.now _ c.read-code.ensures (omega arith) (omega arith) _ _ k _ c.read-entries.ensures (omega arith) _ e c.if-end-s.false
