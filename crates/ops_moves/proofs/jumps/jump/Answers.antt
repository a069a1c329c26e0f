-- `jump` meets its contract. Assumes nothing.
use Rattle.ops_moves.specs.JumpLaws.{jumps_on, jumps_not}
use Rattle.ops_moves.proofs.jumps.jump.Goals as goal

pub returns-then-not-is_start : goal.returns-then-not-is_start
returns-then-not-is_start c = rw c.stop.ensures (jumps_not _ _ _ _ c.is_start.ensures c.if-not-is_start.true)

pub returns : goal.returns
returns c = rw c.go_on.ensures (jumps_on _ _ _ _ c.is_start.ensures c.if-not-is_start.false)
