-- `effects::targets::known` meets its contract: the records before `at` decide; of the target the bytes from i on agree. Assumes nothing.
use Rattle.std.specs.Prelude.{◌≡◌, Bool, true, false, ◌+◌, ◌-◌, ◌≤◌, length}
use Rattle.std.proofs.Common.{sym, ◌∙◌, arith}
use Rattle.effects.specs.Targets.{Target, known_in}
use Rattle.effects.specs.WalkLaws.{Walked, walk_turn, walk_stop, walk_end}
use Rattle.effects.specs.TargetLaws.{hits, alike_within, known_told, all_same, one_differs}
use Rattle.effects.proofs.targets.known.Goals as goal
use Rattle.effects.proofs.targets.known.Goals.{After-record_ending_at-t, Else-not-alike}

abbrev asked_for : After-record_ending_at-t → Target
asked_for c = record { kind = c.args.kind; bytes = c.args.target.now }

-- where this record has not the target, the older ones decide
on : (c : After-record_ending_at-t) → let t = c.record_ending_at-t.result in
    hits (asked_for c) t c.args.log.now ≡ false
    → (t.from ≤ length c.args.log.now) × Walked (known_in (asked_for c)) (λ (b : Bool). b) c.args.log.now t.from
on c h = (
  omega (arith, c.record_ending_at-t.ensures.less),
  walk_turn c.walk.invariant.1 (omega arith) (omega arith) c.record_ending_at-t.result c.record_ending_at-t.ensures _
      (λ e es k. known_told (asked_for c) c.args.log.now c.record_ending_at-t.result e es k ∙ rw h),
)

-- the target's bytes lie within the log
room : (c : Else-not-alike) → c.record_ending_at-t.result.from + length c.args.target.now ≤ length c.args.log.now
room c = omega (arith, alike_within _ _ _ (sym c.if-not-alike.ensures), c.record_ending_at-t.ensures.within, c.walk.invariant.0)

pub walk-preserved-then-not-alike : goal.walk-preserved-then-not-alike
walk-preserved-then-not-alike c = on (goal.at-walk-preserved-then-not-alike c).After-record_ending_at-t (rw (sym c.if-not-alike.ensures))

pub bounds-log-at : goal.bounds-log-at
bounds-log-at c = omega (arith, room (goal.at-bounds-log-at c).Else-not-alike)

-- a byte differs
pub walk-preserved : goal.walk-preserved
walk-preserved c =
    let t = c.record_ending_at-t.result in
    let differs = one_differs c.args.log.now c.args.target.now t.from (room (goal.at-walk-preserved c).Else-not-alike) (c.loop-i.i - 1) (omega arith) c.if-log-at.true in
    on (goal.at-walk-preserved c).After-record_ending_at-t (rw (sym c.if-not-alike.ensures) differs)

pub returns-then-at-eq0 : goal.returns-then-at-eq0
unfolding known_in
returns-then-at-eq0 c = walk_end _ _ _ c.walk.at c.if-at-eq0.true c.walk.invariant.1

pub returns-after-loop-i : goal.returns-after-loop-i
returns-after-loop-i c =
    let t = c.record_ending_at-t.result in
    let g = asked_for (goal.at-returns-after-loop-i c).After-record_ending_at-t in
    let equal = all_same c.args.log.now c.args.target.now t.from (room (goal.at-returns-after-loop-i c).Else-not-alike) (λ k h. c.loop-i.invariant.1 k (omega arith) h) in
    let full : hits g t c.args.log.now ≡ true = rw (sym c.if-not-alike.ensures) equal in
    walk_stop c.walk.invariant.1 (omega arith) (omega arith) t c.record_ending_at-t.ensures true
    (λ e es k. known_told g c.args.log.now t e es k ∙ rw full)
