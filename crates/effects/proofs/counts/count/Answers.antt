-- `effects::counts::count` meets its contract: n and the count of the records before `at` are the count of all. Assumes nothing.
use mathlib.Core.Path.{sym, ◌∙◌}
use Prim.Native.Nat.{◌≤◌}
use native.Mathlib.Omega.{arith}
use native.Mathlib.Nat.{add-zero}
use lib.Dec.{eqb}
use Rattle.words.specs.Choice.{either}
use Rattle.words.specs.ChoiceLaws.{bit_small}
use Rattle.effects.specs.Counts.{count_of}
use Rattle.effects.specs.WalkLaws.{walk_turn, walk_end}
use Rattle.effects.specs.CountLaws.{count_turn}
use Rattle.effects.proofs.counts.count.Goals as goal
use Rattle.effects.proofs.counts.count.Goals.{After-weight-n}

-- a record counts once at most
one : (c : After-weight-n) → c.weight-n.result ≤ 1
one c =
    rw c.weight-n.ensures (bit_small (either c.args.all (eqb c.record_ending_at-t.result.kind 1)))

pub loop-at-preserved : goal.loop-at-preserved
loop-at-preserved c =
    let read = c.record_ending_at-t in (
      omega (arith, one c, read.ensures.less),
      walk_turn c.loop-at.invariant.1 (omega arith) (omega arith) read.result read.ensures _
          (λ e es k. count_turn c.args.all c.loop-at.n c.weight-n.result read.result c.weight-n.ensures e es k.0),
    )

pub returns : goal.returns
unfolding count_of
returns c =
    let turn = c.loop-at in
    λ es s e. sym (add-zero turn.n) ∙ walk_end _ _ _ turn.at (omega arith) turn.invariant.1 es s e
