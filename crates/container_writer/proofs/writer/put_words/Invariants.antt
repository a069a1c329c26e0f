use Rattle.std.proofs.Common.{drop}
use Rattle.container.specs.Canonical.{word_bytes}
use Rattle.container_writer.specs.WriterLaidLaws.{LaidRest}
use Rattle.container_writer.proofs.writer.put_words.Given as goal

abbrev pub invariant-loop-x : goal.invariant-loop-x
invariant-loop-x l = LaidRest l.initial.out l.at (word_bytes l.list) l.out l.end (word_bytes (drop l.x-index l.list))
