-- `verdict::line` meets its contract: what is too long is 48, and the rest is verify's answer. Assumes nothing.
use native.Mathlib.Omega.{arith}
use Rattle.lines.specs.VerdictLaws.{line_short}
use Rattle.lines.proofs.verdict.line.Goals as goal

pub returns : goal.returns
returns c =
    let a = c.args in
    line_short a.out.now _ c.line_for.result a.s.now c.verify.result (omega arith)
    c.verify.ensures c.line_for.ensures
