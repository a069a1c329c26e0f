-- `store` meets its contract. Assumes nothing.
use Rattle.ops_moves.specs.MoveLaws.{stores_on, stores_not}
use Rattle.ops_moves.proofs.moves.store.Goals as goal

pub returns-then-mem_store : goal.returns-then-mem_store
returns-then-mem_store c =
    rw c.go_on.ensures (stores_on _ _ _ _ _ _ c.mem_store.ensures.answer c.if-mem_store.true c.mem_store.ensures.contents c.mem_store.auto.mem)

pub returns : goal.returns
returns c =
    rw c.stop.ensures (stores_not _ _ _ _ _ _ c.mem_store.ensures.answer c.if-mem_store.false)
