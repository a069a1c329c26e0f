-- `post::post` meets its contract: the operands are those of the instruction. Assumes nothing.
use Rattle.ops_posts.specs.PostLaws.{sends, emits, emit_refused}
use Rattle.ops_posts.proofs.post.post.Goals as goal

pub returns-then-selector-gt4294967295 : goal.returns-then-selector-gt4294967295
returns-then-selector-gt4294967295 c =
    let a = c.args in
    rw c.stop.ensures (emit_refused a.regs.now a.memory.now a.run a.log.now _ _ _ _ c.read-selector.ensures a.o c.in-Emit.is c.if-selector-gt4294967295.true)

pub returns-in-Send : goal.returns-in-Send
returns-in-Send c =
    let a = c.args in
    sends a.regs.now a.memory.now a.run a.log.now _ _ _ _ _ _ _ _ c.read-at.ensures c.read.ensures c.read-amount.ensures a.o c.in-Send.is c.post_effect.ensures

pub returns-else-selector-gt4294967295 : goal.returns-else-selector-gt4294967295
returns-else-selector-gt4294967295 c =
    let a = c.args in
    emits a.regs.now a.memory.now a.run a.log.now _ _ _ _ _ _ _ _ c.read-at-in-Emit.ensures c.read-in-Emit.ensures c.read-selector.ensures a.o c.in-Emit.is c.if-selector-gt4294967295.false c.post_effect-in-Emit.ensures
