-- `ret` meets its contract: the pop comes before the target. Assumes nothing.
use Rattle.machine.specs.JumpRules.{jumping}
use Rattle.ops_moves.specs.MoveLaws.{pop_word, pops_on, pops_not}
use Rattle.ops_moves.proofs.jumps.ret.Goals as goal

pub pop-requires : goal.pop-requires
pop-requires c = c.requires

pub overflow_sub-depth : goal.overflow_sub-depth
overflow_sub-depth c =
    pop_word c.args.stack.now c.args.run.depth _ _ c.pop.ensures c.in-Some.is

pub returns : goal.returns
returns c =
    λ x f mem lm h. pops_on x _ f mem _ _ c.pop.ensures (jumping x.env) _ _ c.in-Some.is (c.jump.ensures x f mem _ lm h)

pub returns-in_default : goal.returns-in_default
returns-in_default c =
    rw c.stop.ensures (λ x f mem lm h. pops_not x _ f mem _ _ c.pop.ensures (jumping x.env) c.in_default.is)
