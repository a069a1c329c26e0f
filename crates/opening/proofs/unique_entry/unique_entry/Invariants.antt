use Rattle.opening.specs.UniqueLaws.{Seeking}
use Rattle.opening.proofs.unique_entry.unique_entry.Given as goal

abbrev pub invariant-loop-more : goal.invariant-loop-more
invariant-loop-more l = Seeking l.s l.selector l.first l.n l.at l.more
