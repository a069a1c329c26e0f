-- `jumps::step` meets its contract: each arm is the rule of the jump that it is told. Assumes nothing.
use Rattle.machine.specs.Rules.{next}
use Rattle.machine.specs.JumpRules.{jumping, jump_of}
use Rattle.machine.specs.Sound.{machine_of}
use Rattle.ops_moves.specs.MoveLaws.{move_goes_on}
use Rattle.ops_moves.specs.JumpLaws.{on_zero, on_other}
use Rattle.ops_moves.proofs.jumps.step.Goals as goal

pub returns-then-read-ne0 : goal.returns-then-read-ne0
unfolding machine_of jump_of
returns-then-read-ne0 c =
    rw (c.go_on.ensures, c.in-Jz.is) (λ x mem lm h. on_other x _ _ mem _ _ _ c.read.ensures (jumping x.env _) next _ c.if-read-ne0.true (move_goes_on x _ _ mem _))

pub returns-then-read-eq0 : goal.returns-then-read-eq0
unfolding machine_of jump_of
returns-then-read-eq0 c =
    rw (c.go_on-then-read-eq0.ensures, c.in-Jnz.is) (λ x mem lm h. on_zero x _ _ mem _ _ _ c.read-in-Jnz.ensures next (jumping x.env _) _ c.if-read-eq0.true (move_goes_on x _ _ mem _))

pub ret-requires : goal.ret-requires
ret-requires c =
    c.requires

pub returns-in-Jmp : goal.returns-in-Jmp
unfolding machine_of jump_of
returns-in-Jmp c = rw c.in-Jmp.is (λ x mem. c.jump.ensures x _ mem _)

pub returns-else-read-ne0 : goal.returns-else-read-ne0
unfolding machine_of jump_of
returns-else-read-ne0 c =
    rw c.in-Jz.is (λ x mem lm h. on_zero x _ _ mem _ _ _ c.read.ensures (jumping x.env _) next _ c.if-read-ne0.false (c.jump-in-Jz.ensures x _ mem _ lm h))

pub returns-else-read-eq0 : goal.returns-else-read-eq0
unfolding machine_of jump_of
returns-else-read-eq0 c =
    rw c.in-Jnz.is (λ x mem lm h. on_other x _ _ mem _ _ _ c.read-in-Jnz.ensures next (jumping x.env _) _ c.if-read-eq0.false (c.jump-in-Jnz.ensures x _ mem _ lm h))

pub returns-in-Call : goal.returns-in-Call
unfolding machine_of jump_of
returns-in-Call c =
    rw c.in-Call.is (λ x mem. c.call.ensures x _ mem)

pub returns-in-Ret : goal.returns-in-Ret
unfolding machine_of jump_of
returns-in-Ret c = rw c.in-Ret.is (λ x mem. c.ret.ensures x _ mem)
