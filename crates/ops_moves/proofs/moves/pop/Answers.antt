-- `pop` meets its contract. Assumes nothing.
use Rattle.ops_moves.specs.MoveLaws.{pop_word, pops_on, pops_not, sets_on}
use Rattle.ops_moves.proofs.moves.pop.Goals as goal

pub pop-requires : goal.pop-requires
pop-requires c = c.requires

pub overflow_sub-depth : goal.overflow_sub-depth
overflow_sub-depth c =
    pop_word c.args.stack.now c.args.run.depth _ _ c.pop.ensures c.in-Some.is

pub returns : goal.returns
returns c =
    rw c.set.ensures (λ x f mem. pops_on x _ f mem _ _ c.pop.ensures _ _ _ c.in-Some.is (sets_on x _ f mem _ _ _))

pub returns-in_default : goal.returns-in_default
returns-in_default c = rw c.stop.ensures (λ x f mem. pops_not x _ f mem _ _ c.pop.ensures _ c.in_default.is)
