-- `enter` meets its contract. Assumes nothing.
use borrow.Author.Rules.{rules}
use Rattle.interp.specs.Entered.{Cut}
use Rattle.interp.specs.EnterLaws.{starting, entered}
use Rattle.interp.proofs.enter.enter.Goals as goal
use Rattle.interp.proofs.enter.enter.Goals.{After-first_run-start}

-- the parts as they were cut
cut_so : (c : After-first_run-start) →
    Cut c.args.o c.args.input.container.now
    c.part-code.result.now c.words_of-consts.result.now
    c.words_of-reads.result.now c.words_of-writes.result.now
    c.words_of-keyed_reads.result.now c.words_of-keyed_writes.result.now
cut_so c =
    record {
      code_is = c.part-code.ensures;
      consts_are = c.words_of-consts.ensures;
      reads_are = c.words_of-reads.ensures;
      writes_are = c.words_of-writes.ensures;
      keyed_reads_are = c.words_of-keyed_reads.ensures;
      keyed_writes_are = c.words_of-keyed_writes.ensures;
    }

pub exec-x-requires : goal.exec-x-requires
exec-x-requires c =
    starting c.requires (cut_so (goal.at-exec-x-requires c).After-first_run-start) c.begin.ensures.begins c.first_run-start.ensures

pub returns-clause-enters : goal.returns-clause-enters
returns-clause-enters c =
    λ o. entered o (cut_so (goal.at-returns-clause-enters c).After-first_run-start) c.begin.ensures.begins c.first_run-start.ensures c.exec-x.ensures.runs c.finish.ensures.finishes (search rules)
