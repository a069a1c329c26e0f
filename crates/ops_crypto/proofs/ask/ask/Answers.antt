-- `ops_crypto::ask::ask` meets its contract: no row left, a fault row, a reply. Assumes nothing.
use mathlib.Core.Path.{sym}
use Prim.Native.Nat.{◌+◌, ◌*◌, ◌≤◌}
use native.Mathlib.Omega.{arith}
use lib.ListN.{length}
use lib.Seq.{length-take-le}
use Rattle.ops_crypto.specs.AskLaws.{shown_within, shown_is, ask_none, ask_fault, ask_told}
use Rattle.ops_crypto.proofs.ask.ask.Goals as goal
use Rattle.ops_crypto.proofs.ask.ask.Goals.{After-min-n, Else-replies-run-lt48}

-- a row is left
left : (c : Else-replies-run-lt48) → c.args.run.replies * 48 + 48 ≤ length c.args.replies.now
left c = omega (arith, c.if-replies-run-lt48.false, c.requires)

-- the part of the row's bytes that its length takes
within : (c : After-min-n) → c.min-n.result ≤ length c.reply-row.result.bytes
within c =
    let a = c.args in
    shown_within a.replies.now a.run.replies _ (left (goal.at-After-min-n c).Else-replies-run-lt48) c.reply-row.ensures _ c.min-n.ensures

pub returns-then-replies-run-lt48 : goal.returns-then-replies-run-lt48
returns-then-replies-run-lt48 c =
    let a = c.args in
    let stopped = c.stop.ensures in record { keys = (rw stopped, rw stopped); turn = λ e stack log d ks f. ask_none e a.replies.now d f a.run a.memory.now stack ks log _ _ stopped (omega (arith, c.if-replies-run-lt48.true, c.requires)) }

pub returns-then-row-ne0 : goal.returns-then-row-ne0
returns-then-row-ne0 c =
    let a = c.args in
    let stopped = c.stop-then-row-ne0.ensures in record { keys = (rw stopped, rw stopped); turn = λ e stack log d ks f. ask_fault e a.replies.now d f a.run a.memory.now stack ks log _ _ _ c.reply-row.ensures (left (goal.at-returns-then-row-ne0 c).Else-replies-run-lt48) stopped c.if-row-ne0.true }

pub slice_bounds-bytes-end : goal.slice_bounds-bytes-end
slice_bounds-bytes-end c = within (goal.at-slice_bounds-bytes-end c).After-min-n

pub slice_bounds-mem_write-end : goal.slice_bounds-mem_write-end
slice_bounds-mem_write-end c = sym (length-take-le _ _ (within (goal.at-slice_bounds-mem_write-end c).After-min-n))

pub overflow_add-replies : goal.overflow_add-replies
overflow_add-replies c =
    omega (arith, left (goal.at-overflow_add-replies c).Else-replies-run-lt48, c.well_formed.1.0)

pub returns : goal.returns
returns c =
    let a = c.args in
    let told = c.reply-row.ensures in
    let set = c.set.ensures in record {
      keys = (rw set, rw set);
      turn = λ e stack log d ks f.
          ask_told e a.replies.now d f a.run a.memory.now stack ks log _ _ _ told (left (goal.at-returns c).Else-replies-run-lt48) c.if-row-ne0.false
          (rw (shown_is a.replies.now a.run.replies _ (left (goal.at-returns c).Else-replies-run-lt48) told _ c.min-n.ensures) at c.mem_write.ensures.contents) c.mem_write.auto.mem set;
    }
