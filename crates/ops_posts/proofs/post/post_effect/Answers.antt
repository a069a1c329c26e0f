-- `post::post_effect` meets its contract: from the region to the record each way out is the rule's. Assumes nothing.
use mathlib.Core.Path.{◌≡◌, ap, ◌∙◌}
use mathlib.Core.List.{List}
use Prim.Native.Nat.{ℕ, ◌+◌, ◌-◌, ◌*◌, ◌≤◌, ◌<◌}
use native.Mathlib.Omega.{arith}
use lib.ListN.{length, take, drop}
use Rattle.state.specs.RegionLaws.{part_ordered, part_ends}
use Rattle.effects.specs.Log.{Effect}
use Rattle.machine.specs.PostRules.{posting}
use Rattle.machine.specs.RunParts.{with_posted, with_used}
use Rattle.machine.proofs.TurnLaws.{paid_is}
use Rattle.machine.specs.declared.run.Run.{Run}
use Rattle.machine.specs.declared.turn.Turn.{Turn}
use Rattle.ops_posts.specs.EffectRules.{effect, charging, placing, Comes}
use Rattle.ops_posts.specs.AppendLaws.{no_room_stops, appended_goes}
use Rattle.ops_posts.specs.PostLaws.{part_short, place_comes, place_stops, pay_comes, pay_ends, total_over, total_comes}
use Rattle.ops_posts.proofs.post.post_effect.Goals as goal
use Rattle.ops_posts.proofs.post.post_effect.Goals.{After-append-arg-1, After-struct_known-1, In-Some}

-- the bytes of the region, and the effect that they make
abbrev bytes_at : In-Some → List ℕ
bytes_at c = let g = c.in-Some in take (g.end - g.start) (drop g.start c.args.memory.now)

abbrev effect_at : In-Some → Effect
effect_at c = effect c.args.kind c.args.word (bytes_at c)

-- the part that the region found, in order and within memory
part : (c : In-Some) → let g = c.in-Some in (g.start ≤ g.end) × (g.end ≤ length c.args.memory.now)
part c =
    let a = c.args in (
      part_ordered (length a.memory.now) a.at a.n _ c.mem_region.ensures _ _ c.in-Some.is,
      part_ends (length a.memory.now) a.at a.n _ c.mem_region.ensures _ _ c.in-Some.is,
    )

small : (c : In-Some) → length (bytes_at c) ≤ 65536
small c = let g = c.in-Some in part_short c.args.memory.now g.start g.end c.requires.4

-- the region's bytes in place of the region
on_region : (c : In-Some) (u : List ℕ) (r : Turn) → Comes (λ e. charging e (effect_at c)) c.args.run c.args.log.now u r
    → Comes (λ e. placing e c.args.kind c.args.word c.args.memory.now c.args.at c.args.n) c.args.run c.args.log.now u r
on_region c u r h =
    let a = c.args in
    place_comes a.memory.now a.at a.n _ c.mem_region.ensures a.kind a.word _ _ c.in-Some.is a.run a.log.now u r h

-- the run that paid for the bytes, and the one that paid for the rest
abbrev moved_at : After-struct_known-1 → Run
moved_at c = c.in-Some-pay.moved

moved_is : (c : After-struct_known-1) →
    moved_at c ≡ with_used c.args.run (c.args.run.meter.used + 2 * length (bytes_at (goal.at-After-struct_known-1 c).In-Some))
moved_is c = paid_is c.args.run _ _ _ c.pay.ensures c.in-Some-pay.is

abbrev paid_at : After-append-arg-1 → Run
paid_at c = c.in-Some-pay-2.paid

kept : (c : After-append-arg-1) → let r = c.args.run in
    ((paid_at c).log ≡ r.log) × ((paid_at c).events ≡ r.events) × ((paid_at c).posted ≡ r.posted + length (bytes_at (goal.at-After-append-arg-1 c).In-Some) + 32)
kept c =
    let m = moved_at (goal.at-After-append-arg-1 c).After-struct_known-1 in
    let n : ℕ = length (bytes_at (goal.at-After-append-arg-1 c).In-Some) in
    let w = moved_is (goal.at-After-append-arg-1 c).After-struct_known-1 in
    let q = paid_is (with_posted m (m.posted + n + 32)) _ _ _ c.pay-2.ensures c.in-Some-pay-2.is in (
      ap (λ (x : Run). x.log) q ∙ ap (λ (x : Run). x.log) w,
      ap (λ (x : Run). x.events) q ∙ ap (λ (x : Run). x.events) w,
      ap (λ (x : Run). x.posted) q ∙ ap (λ (x : Run). x.posted + n + 32) w,
    )

few : (c : After-append-arg-1) → (paid_at c).events < (paid_at c).posted
few c = omega (arith, kept c, c.requires.1)

-- a claim of the run that paid for the rest
on_paid : (c : After-append-arg-1) (u : List ℕ) (r : Turn) → Comes (λ e. posting e (effect_at (goal.at-After-append-arg-1 c).In-Some)) (paid_at c) c.args.log.now u r
    → Comes (λ e. charging e (effect_at (goal.at-After-append-arg-1 c).In-Some)) c.args.run c.args.log.now u r
on_paid c u r h =
    pay_comes c.pay.ensures c.in-Some-pay.is
    (total_comes (effect_at (goal.at-After-append-arg-1 c).In-Some) _ _ _ _ _ c.if-posted-gt1048576.false c.price-price.ensures
    (pay_comes c.pay-2.ensures c.in-Some-pay-2.is h))

pub returns-in_default : goal.returns-in_default
returns-in_default c =
    let a = c.args in
    rw c.stop.ensures (place_stops a.memory.now a.at a.n _ c.mem_region.ensures a.kind a.word c.in_default.is a.run a.log.now)

pub overflow_mul-bytes : goal.overflow_mul-bytes
overflow_mul-bytes c = omega (arith, small (goal.at-overflow_mul-bytes c).In-Some)

pub returns-in_default-pay : goal.returns-in_default-pay
returns-in_default-pay c =
    rw c.stop-in_default-pay.ensures (on_region (goal.at-returns-in_default-pay c).In-Some _ _ (pay_ends c.pay.ensures c.in_default-pay.is))

pub overflow_add-posted : goal.overflow_add-posted
overflow_add-posted c = omega (arith, ap (λ (x : Run). x.posted) (moved_is c), c.requires.2, small (goal.at-overflow_add-posted c).In-Some)

pub overflow_add-posted-2 : goal.overflow_add-posted-2
overflow_add-posted-2 c = omega (arith, ap (λ (x : Run). x.posted) (moved_is c), c.requires.2, small (goal.at-overflow_add-posted-2 c).In-Some)

pub returns-then-posted-gt1048576 : goal.returns-then-posted-gt1048576
returns-then-posted-gt1048576 c =
    rw c.stop-then-posted-gt1048576.ensures
    (on_region (goal.at-returns-then-posted-gt1048576 c).In-Some _ _
    (pay_comes c.pay.ensures c.in-Some-pay.is (total_over (effect_at (goal.at-returns-then-posted-gt1048576 c).In-Some) _ _ c.if-posted-gt1048576.true)))

pub price-price-requires : goal.price-price-requires
price-price-requires c = (c.requires.3, small (goal.at-price-price-requires c).In-Some)

pub returns-in_default-pay-2 : goal.returns-in_default-pay-2
returns-in_default-pay-2 c =
    rw c.stop-in_default-pay-2.ensures
    (on_region (goal.at-returns-in_default-pay-2 c).In-Some _ _
    (pay_comes c.pay.ensures c.in-Some-pay.is
    (total_comes (effect_at (goal.at-returns-in_default-pay-2 c).In-Some) _ _ _ _ _ c.if-posted-gt1048576.false c.price-price.ensures (pay_ends c.pay-2.ensures c.in_default-pay-2.is))))

pub append-requires : goal.append-requires
append-requires c = (rw (kept c).0 c.requires.0, omega (arith, small (goal.at-append-requires c).In-Some))

pub returns-in_default-append : goal.returns-in_default-append
returns-in_default-append c =
    rw c.stop-in_default-append.ensures (on_region (goal.at-returns-in_default-append c).In-Some _ _ (on_paid (goal.at-returns-in_default-append c).After-append-arg-1 _ _ (no_room_stops (effect_at (goal.at-returns-in_default-append c).In-Some) (paid_at (goal.at-returns-in_default-append c).After-append-arg-1) _ _ _ c.append.ensures c.in_default-append.is)))

pub overflow_add-events : goal.overflow_add-events
overflow_add-events c = omega (arith, few (goal.at-overflow_add-events c).After-append-arg-1, kept (goal.at-overflow_add-events c).After-append-arg-1, c.requires.2, c.requires.3)

pub returns : goal.returns
returns c =
    rw c.go_on.ensures
    (on_region (goal.at-returns c).In-Some _ _ (on_paid (goal.at-returns c).After-append-arg-1 _ _
    (appended_goes (effect_at (goal.at-returns c).In-Some) (paid_at (goal.at-returns c).After-append-arg-1) _ _ _ c.append.ensures _ c.in-Some-append.is (few (goal.at-returns c).After-append-arg-1) c.requires.3 (omega arith, omega (arith, small (goal.at-returns c).In-Some), tt))))

pub slice_bounds-bytes-count : goal.slice_bounds-bytes-count
slice_bounds-bytes-count c = (part c).0

pub slice_bounds-bytes-start : goal.slice_bounds-bytes-start
slice_bounds-bytes-start c = omega (arith, part c)

pub slice_bounds-bytes-end : goal.slice_bounds-bytes-end
slice_bounds-bytes-end c = (part c).1
