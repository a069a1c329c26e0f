use Rattle.words.proofs.Words.{Estimate}
use Rattle.words.proofs.descend.descend.Given as goal

abbrev pub invariant-loop-n : goal.invariant-loop-n
invariant-loop-n l = Estimate l.n l.d l.e

abbrev pub decreases-loop-n : goal.decreases-loop-n
decreases-loop-n l = l.e
