-- The words of each answer, document 01's number first; a refusal has zeroes past its argument.
use Rattle.std.specs.Prelude.{List, [], ◌∷◌, ℕ, Result, Ok, Err}
use Rattle.words.specs.declared.refusal.Refusal.{Refusal}
use Rattle.state.specs.Regs.{reg}
use Rattle.container_verify.specs.Answers.{invalid_refusal}
use Rattle.container.specs.Answers.{offset_answer}
use Rattle.container_writer.specs.Answers.{written_answer}
use Rattle.changes.specs.ChangeList.{change_list_number}
use Rattle.interp.specs.declared.answer.Answer.{Answer}
use Rattle.container.specs.declared.reader.Layout.{Layout}
use Rattle.container_verify.specs.declared.verify.Invalid.{Invalid}
use Rattle.container.specs.declared.offsets.OffsetError.{OffsetError}
use Rattle.container_writer.specs.declared.writer.WriteError.{WriteError}
use Rattle.changes.specs.declared.ChangeError.{ChangeError}

-- a call: number, argument, fetches, used, fetched, changes, log bytes, registers 0 to 15
abbrev pub answer_words : Answer → List ℕ
answer_words a =
    a.end.number ∷ a.end.argument ∷ a.fetches ∷ a.used ∷ a.fetched ∷ a.changes ∷ a.log ∷
    reg a.regs 0 ∷ reg a.regs 1 ∷ reg a.regs 2 ∷ reg a.regs 3 ∷ reg a.regs 4 ∷ reg a.regs 5 ∷ reg a.regs 6 ∷ reg a.regs 7 ∷
    reg a.regs 8 ∷ reg a.regs 9 ∷ reg a.regs 10 ∷ reg a.regs 11 ∷ reg a.regs 12 ∷ reg a.regs 13 ∷ reg a.regs 14 ∷ reg a.regs 15 ∷ []

abbrev pub pair_words : Refusal → List ℕ
pair_words a = a.number ∷ a.argument ∷ []

-- a refusal of verify: number, argument, and no counts
abbrev pub refused_words : Refusal → List ℕ
refused_words a = a.number ∷ a.argument ∷ 0 ∷ 0 ∷ 0 ∷ []

-- verify: number, argument, code bytes, constants, entries
unfoldable pub verified_words : Result Layout Invalid → List ℕ
verified_words (Ok l) = 0 ∷ 0 ∷ l.code ∷ l.consts ∷ l.entries ∷ []
verified_words (Err e) = refused_words (invalid_refusal e)

-- entry_offset: number, offset
unfoldable pub offset_words : Result ℕ OffsetError → List ℕ
offset_words o = pair_words (offset_answer o)

-- the writer: number, bytes written
unfoldable pub written_words : Result ℕ WriteError → List ℕ
written_words w = pair_words (written_answer w)

-- the change list: number, rows
abbrev pub rows_in : Result ℕ ChangeError → ℕ
rows_in (Ok n) = n
rows_in (Err e) = 0

unfoldable pub list_words : Result ℕ ChangeError → List ℕ
list_words l = change_list_number l ∷ rows_in l ∷ []
