-- `write` meets its contract: what was laid down is what the answer says. Assumes nothing.
use mathlib.Core.Path.{sym}
use native.Mathlib.Omega.{arith}
use Rattle.container_writer.specs.WriterSizeLaws.{listed_size}
use Rattle.container_writer.specs.WriterAnswerLaws.{answer_laid}
use Rattle.container_writer.proofs.writer.write.Goals as goal

pub returns : goal.returns
returns c =
    let a = c.args in
    let s = sym c.if-not-is_list.ensures in
    let k = listed_size a.code.now a.consts.now a.list.now s in
    let e = answer_laid a.code.now a.consts.now a.list.now s a.out.now (omega arith) (omega arith) (omega arith) c.put.new.out c.put.result c.put.ensures in
    record { answer = e.0; output = e.1 }
