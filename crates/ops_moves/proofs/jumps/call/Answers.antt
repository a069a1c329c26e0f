-- `call` meets its contract: the push comes before the target. Assumes nothing.
use Rattle.ops_moves.specs.MoveLaws.{pushes_on, pushes_not}
use Rattle.machine.specs.JumpRules.{jumping}
use Rattle.machine.specs.Sound.{machine_of}
use Rattle.ops_moves.proofs.jumps.call.Goals as goal

pub returns : goal.returns
unfolding machine_of
returns c =
    λ x f mem lm h. pushes_on x _ f mem _ _ _ _ c.push.ensures.answer c.push.ensures.contents (jumping x.env _) _ _ c.in-Some.is (c.jump.ensures x f mem _ lm h)

pub returns-in_default : goal.returns-in_default
unfolding machine_of
returns-in_default c =
    rw c.stop.ensures (λ x f mem lm h. pushes_not x _ f mem _ _ _ _ c.push.ensures.answer c.push.ensures.contents (jumping x.env _) c.in_default.is)
