use Rattle.std.proofs.Common.{◌≡◌, ◌-◌, is_some, true}
use Rattle.container_writer.specs.Writer.{entries_in}
use Rattle.container_writer.specs.WriterLaidLaws.{LaidRest}
use Rattle.container_writer.specs.WriterLaws.{laid_bytes}
use Rattle.container_writer.proofs.writer.put_entries.Given as goal

abbrev pub invariant-loop-i : goal.invariant-loop-i
invariant-loop-i l = (is_some (entries_in (l.n - l._i) l.rest) ≡ true) × LaidRest l.initial.out l.at (laid_bytes l.n l.list) l.out l.end (laid_bytes (l.n - l._i) l.rest)
