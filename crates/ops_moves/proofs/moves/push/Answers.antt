-- `push` meets its contract. Assumes nothing.
use Rattle.machine.specs.Rules.{next}
use Rattle.ops_moves.specs.MoveLaws.{pushes_on, pushes_not, move_goes_on}
use Rattle.ops_moves.proofs.moves.push.Goals as goal

pub returns : goal.returns
returns c =
    rw c.go_on.ensures (λ x f mem. pushes_on x _ f mem _ _ _ _ c.push.ensures.answer c.push.ensures.contents next _ _ c.in-Some.is (move_goes_on x _ f mem _))

pub returns-in_default : goal.returns-in_default
returns-in_default c =
    rw c.stop.ensures (λ x f mem. pushes_not x _ f mem _ _ _ _ c.push.ensures.answer c.push.ensures.contents next c.in_default.is)
