-- `effect::effect_line` meets its contract: what the trailer tells is the effect's. Assumes nothing.
use Prim.Native.Nat.{◌+◌, ◌*◌, ◌-◌, ◌≤◌}
use native.Mathlib.Omega.{arith}
use lib.ListN.{length}
use Rattle.lines.specs.EffectLaws.{line_short, line_transfer, line_event}
use Rattle.lines.proofs.effect.effect_line.Goals as goal
use Rattle.lines.proofs.effect.effect_line.Goals.{Else-out-t, then-out-lt-LEAST-via-then-out-lt-LEAST, then-out-lt-LEAST-via-else-out-lt-LEAST+then-out-t}

-- too short an output is left as it was
pub returns-then-out-lt-LEAST : goal.returns-then-out-lt-LEAST
returns-then-out-lt-LEAST c =
    line_short c.args.out.now c.args.log.now c.args.at c.record_ending_at-t.result c.requires.1 c.record_ending_at-t.ensures
    (elim c.then-out-lt-LEAST.branch [
      | then-out-lt-LEAST-via-then-out-lt-LEAST w ↦ omega (arith, w.if-out-lt-LEAST.true)
      | then-out-lt-LEAST-via-else-out-lt-LEAST+then-out-t w ↦ omega (arith, w.if-out-lt-LEAST.false, w.if-out-t.true)
    ])

-- past both tests the data's digits have room
room : (fits : Else-out-t) → fits.record_ending_at-t.result.length * 2 + 80 ≤ length fits.args.out.now
room fits = omega (arith, fits.if-out-lt-LEAST.false, fits.if-out-t.false)

pub returns-then-t-eq-TRANSFER : goal.returns-then-t-eq-TRANSFER
returns-then-t-eq-TRANSFER c =
    let t = c.record_ending_at-t.result in
    line_transfer c.args.out.now c.args.log.now c.args.at t c.requires.1 c.record_ending_at-t.ensures
    _ (t.from + t.length - t.from) c.transfer_line.result (omega arith) (room (goal.at-returns-then-t-eq-TRANSFER c).Else-out-t)
    c.if-t-eq-TRANSFER.true c.transfer_line.ensures

pub returns-else-t-eq-TRANSFER : goal.returns-else-t-eq-TRANSFER
returns-else-t-eq-TRANSFER c =
    let t = c.record_ending_at-t.result in
    line_event c.args.out.now c.args.log.now c.args.at t c.requires.1 c.record_ending_at-t.ensures
    _ (t.from + t.length - t.from) c.event_line.result (omega arith) (room (goal.at-returns-else-t-eq-TRANSFER c).Else-out-t)
    c.if-t-eq-TRANSFER.false c.event_line.ensures
