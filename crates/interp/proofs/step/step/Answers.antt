-- `step` meets its contract: each arm is the step of its group. Assumes nothing.
use Rattle.interp.specs.StepLaws.{halt_steps, nop_steps, register_steps, move_steps, jump_steps, post_steps, check_steps}
use Rattle.std.proofs.Common.{sym, ◌∙◌}
use Rattle.interp.proofs.step.step.Goals as goal

pub returns-in-Halt-clause-steps : goal.returns-in-Halt-clause-steps
returns-in-Halt-clause-steps c =
    rw c.halt.ensures (halt_steps _ _ _ _ _ c.action_of-a.ensures c.in-Halt.is _)

pub returns-in-Nop-clause-steps : goal.returns-in-Nop-clause-steps
returns-in-Nop-clause-steps c =
    rw c.go_on.ensures (nop_steps _ _ _ _ _ c.action_of-a.ensures c.in-Nop.is _)

pub returns-in-Registers-clause-steps : goal.returns-in-Registers-clause-steps
returns-in-Registers-clause-steps c =
    register_steps _ _ _ _ _ c.action_of-a.ensures c.in-Registers.is _ _ c.registers.ensures

pub returns-in-Moves-clause-steps : goal.returns-in-Moves-clause-steps
returns-in-Moves-clause-steps c =
    move_steps _ _ _ _ _ c.action_of-a.ensures _ _ _ _ _ _ _ _ c.in-Moves.is c.step.ensures

pub returns-in-Jumps-clause-steps : goal.returns-in-Jumps-clause-steps
returns-in-Jumps-clause-steps c =
    jump_steps _ _ _ _ _ c.action_of-a.ensures _ _ _ _ _ _ _ c.in-Jumps.is c.step-in-Jumps.ensures

pub returns-in-Storage-clause-steps : goal.returns-in-Storage-clause-steps
returns-in-Storage-clause-steps c =
    c.storage.ensures.steps _ (sym c.in-Storage.is ∙ c.action_of-a.ensures)

pub returns-in-Posts-clause-steps : goal.returns-in-Posts-clause-steps
returns-in-Posts-clause-steps c =
    post_steps _ _ _ _ _ c.action_of-a.ensures _ _ _ _ _ _ _ c.in-Posts.is c.post.ensures

pub returns-in-Hash-clause-steps : goal.returns-in-Hash-clause-steps
returns-in-Hash-clause-steps c =
    c.hash.ensures.steps _ (sym c.in-Hash.is ∙ c.action_of-a.ensures)

pub returns-in-Checks-clause-steps : goal.returns-in-Checks-clause-steps
returns-in-Checks-clause-steps c =
    check_steps _ _ _ _ _ c.action_of-a.ensures _ _ _ _ _ _ _ c.in-Checks.is c.check.ensures
