-- `entry_at` meets its contract: the four lists stand one after the other. Assumes nothing.
use native.Mathlib.Omega.{arith}
use Rattle.container.specs.EntryLaws.{entry_done}
use Rattle.container.proofs.entries.entry_at.Goals as goal

pub returns : goal.returns
returns c =
    entry_done c.args.s.now c.args.at (omega arith) _ _ c.in_ok-reads.ensures _ _ c.in_ok-writes.ensures _ _ c.in_ok-keyed_reads.ensures _ _ c.in_ok-keyed_writes.ensures _ _ c.read-selector.ensures c.read-offset.ensures
