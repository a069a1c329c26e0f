-- Document 01's number and argument for each case of the reader's answers (Numbers returned); 0 0 when done.
use Rattle.std.specs.Prelude.{ℕ, Result, Ok, Err}
use Rattle.words.specs.Refusals.{refusal}
use Rattle.words.specs.declared.refusal.Refusal.{Refusal}
use Rattle.container.specs.declared.reader.ReadError.{ReadError}
use Rattle.container.specs.declared.reader.ReadError.TheVariants as reader
use Rattle.container.specs.declared.reader.Layout.{Layout}
use Rattle.container.specs.declared.offsets.OffsetError.{OffsetError}

abbrev pub read_error : ReadError → Refusal
read_error reader.BadTag = refusal 41 0
read_error reader.Short = refusal 42 0
read_error reader.Trailing = refusal 43 0

abbrev pub reading_answer : Result Layout ReadError → Refusal
reading_answer (Ok l) = refusal 0 0
reading_answer (Err e) = read_error e

abbrev pub offset_error : OffsetError → Refusal
offset_error OffsetError.UnknownSelector = refusal 9 0
offset_error (OffsetError.Unreadable e) = read_error e

-- done is 0, with the offset
abbrev pub offset_answer : Result ℕ OffsetError → Refusal
offset_answer (Ok place) = refusal 0 place
offset_answer (Err e) = offset_error e
