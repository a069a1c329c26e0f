-- Document 01's number and argument for each case of the writer's answers (Numbers returned).
use Rattle.std.specs.Prelude.{ℕ, Result, Ok, Err}
use Rattle.words.specs.Refusals.{refusal}
use Rattle.words.specs.declared.refusal.Refusal.{Refusal}
use Rattle.container_writer.specs.declared.writer.WriteError.{WriteError}

abbrev pub write_error : WriteError → Refusal
write_error WriteError.BadList = refusal 49 0
write_error WriteError.NoRoom = refusal 48 0

-- done is 0, with the length written
abbrev pub written_answer : Result ℕ WriteError → Refusal
written_answer (Ok length) = refusal 0 length
written_answer (Err e) = write_error e
