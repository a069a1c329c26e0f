-- `effects::targets::any_target` meets its contract: the records before `at` decide. Assumes nothing.
use mathlib.Core.Path.{sym, ◌∙◌}
use mathlib.Core.Bool.{true}
use native.Mathlib.Omega.{arith}
use Rattle.effects.specs.Targets.{any_target}
use Rattle.effects.specs.WalkLaws.{walk_turn, walk_stop, walk_end}
use Rattle.effects.specs.TargetLaws.{any_told}
use Rattle.effects.proofs.targets.any_target.Goals as goal

pub returns-then-durable : goal.returns-then-durable
returns-then-durable c =
    let read = c.record_ending_at-t in
    let turn = c.loop-at in
    walk_stop turn.invariant.1 (omega arith) (omega arith) read.result read.ensures true
    (λ e es k. any_told _ read.result e es k ∙ rw (sym c.durable.ensures ∙ c.if-durable.true))

pub loop-at-preserved : goal.loop-at-preserved
loop-at-preserved c =
    let read = c.record_ending_at-t in
    let turn = c.loop-at in (
      omega (arith, read.ensures.less),
      walk_turn turn.invariant.1 (omega arith) (omega arith) read.result read.ensures _
          (λ e es k. any_told _ read.result e es k ∙ rw (sym c.durable.ensures ∙ c.if-durable.false)),
    )

pub returns : goal.returns
unfolding any_target
returns c = let turn = c.loop-at in walk_end _ _ _ turn.at (omega arith) turn.invariant.1
