-- `ops_moves::step` meets its contract: each arm is the rule of the move that it is told. Assumes nothing.
use Rattle.state.specs.Regs.{file}
use Rattle.machine.specs.MoveRules.{move_of}
use Rattle.machine.specs.Sound.{machine_of}
use Rattle.ops_moves.proofs.moves.step.Goals as goal

pub pop-requires : goal.pop-requires
pop-requires c =
    c.requires

pub returns-in-Ldc : goal.returns-in-Ldc
unfolding machine_of move_of
returns-in-Ldc c =
    rw c.in-Ldc.is (λ x q. c.constant.ensures x (file c.args.regs.now) _ _ q)

pub returns-in-Push : goal.returns-in-Push
unfolding machine_of move_of
returns-in-Push c =
    rw c.in-Push.is (λ x q. rw c.read.ensures at (c.push.ensures x (file c.args.regs.now) c.args.memory.now))

pub returns-in-Pop : goal.returns-in-Pop
unfolding machine_of move_of
returns-in-Pop c = rw c.in-Pop.is (λ x q. c.pop.ensures x _ _)

pub returns-in-MLoad : goal.returns-in-MLoad
unfolding machine_of move_of
returns-in-MLoad c =
    rw c.in-MLoad.is (λ x q. rw c.read-in-MLoad.ensures at (c.load.ensures x (file c.args.regs.now) c.args.stack.now))

pub returns-in-MStore : goal.returns-in-MStore
unfolding machine_of move_of
returns-in-MStore c =
    rw c.in-MStore.is (λ x q. rw (c.read-at.ensures, c.read-in-MStore.ensures) at (c.store.ensures x (file c.args.regs.now) c.args.stack.now))
