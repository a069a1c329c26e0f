-- When the writer answers what, and that what it writes is within its widths. Assumes nothing.
use Rattle.std.specs.Prelude.{◌≡◌, Bool, true, false, ◌↔◌, List, [], ◌∷◌, ℕ, ◌^◌, ◌≤◌, ◌<◌, leb, length, drop, Option, Some, None, Result, Ok, Err}
use Rattle.std.proofs.Math.Path.{refl}
use Rattle.std.proofs.Common.{sym, ap, ◌∙◌, arith, leb-true, leb-false}
use Rattle.words.specs.Bytes.{Bytes}
use Rattle.container.specs.Container.{Container}
use Rattle.container.specs.Canonical.{Words, Writable, canonical}
use Rattle.words.specs.Lists.{nth}
use Rattle.container_writer.specs.Writer.{all_short, slots_in, begins_entry, entry_in, with_entry, nothing_left, entries_in, listed, with_code, to_write, written_of, writer_output_by, writer_output}
use Rattle.container_writer.specs.WriterLaws.{listed_so}
use Rattle.container_writer.specs.WriterSizeLaws.{entries_sized}
use Rattle.container_writer.specs.WriterAnswerLaws.{sound, answer_refused, no_room, written_done}
use Rattle.container_writer.specs.WriterWidthLaws.{words_drop, writable_entries}
use Rattle.container.specs.CaseTheorems.{example}
use Rattle.container_writer.specs.declared.writer.WriteError.{WriteError}

-- the container that is written is one that can be
pub to_write_writable : (code consts list : List ℕ) (c : Container) → to_write code consts list ≡ Some c → Bytes code → Words consts → Words list → Writable c
to_write_writable code consts list c e b k w =
    let s = sound code consts list c e in
    let l = listed_so list s.lists in
    rw (s.is, l.is) (record {
      code = s.short_code;
      bytes = b;
      consts = record { count = s.short_consts; words = k };
      count = omega (arith, (entries_sized (nth list 0) (drop 1 list) (rw l.is at s.lists)).count, l.small);
      entries = writable_entries (nth list 0) (drop 1 list) (rw l.is at s.lists) (words_drop 1 list w);
    })

-- what each answer says
abbrev Answered : Option Container → (out : List ℕ) → Result ℕ WriteError → Type 0
Answered o out (Err WriteError.BadList) = o ≡ None
Answered o out (Err WriteError.NoRoom) = (c : Container) × (o ≡ Some c) × (length out < length (canonical c))
Answered o out (Ok n) = (c : Container) × (o ≡ Some c) × (n ≡ length (canonical c)) × (length (canonical c) ≤ length out)

-- what is answered, by the container and the output's length
by_answer : (o : Option Container) (out : List ℕ) (w : Result ℕ WriteError) → written_of o out ≡ w → Answered o out w
unfolding written_of
by_answer None out w e = rw (← e) refl
by_answer (Some c) out w e = by (leb (length (canonical c)) (length out)) refl
  where
    by : (t : Bool) → leb (length (canonical c)) (length out) ≡ t → Answered (Some c) out w
    by true h = rw (← e, h) (c, refl, refl, leb-true (length (canonical c)) (length out) h)
    by false h = rw (← e, h) (c, refl, leb-false (length (canonical c)) (length out) h)

module _ (code consts list out : List ℕ) where
  -- 49 exactly where there is no container to write
  pub bad_list : (written_of (to_write code consts list) out ≡ Err WriteError.BadList) ↔ (to_write code consts list ≡ None)
  bad_list = (by_answer (to_write code consts list) out (Err WriteError.BadList), λ e. sym (answer_refused (to_write code consts list) out e).0)

  -- 48 exactly where there is one and the output is shorter than its bytes
  pub short_output : (written_of (to_write code consts list) out ≡ Err WriteError.NoRoom) ↔
      ((c : Container) × (to_write code consts list ≡ Some c) × (length out < length (canonical c)))
  short_output = (by_answer (to_write code consts list) out (Err WriteError.NoRoom), λ s. sym (no_room (to_write code consts list) out s.0 s.1 s.2).0)

  -- otherwise it is done, all of it, in as many bytes as it says
  pub all_written : (n : ℕ) → (written_of (to_write code consts list) out ≡ Ok n) ↔
      ((c : Container) × (to_write code consts list ≡ Some c) × (n ≡ length (canonical c)) × (length (canonical c) ≤ length out))
  all_written n = (
    by_answer (to_write code consts list) out (Ok n),
    λ s. written_done (to_write code consts list) out s.0 s.1 s.3 ∙ ap Ok (sym s.2),
  )

  -- what is not done leaves the output as it was
  pub refused_keeps : ((n : ℕ) → written_of (to_write code consts list) out ≡ Ok n → ⊥) → writer_output (to_write code consts list) out ≡ out
  unfolding writer_output writer_output_by
  refused_keeps h = by (to_write code consts list) (written_of (to_write code consts list) out) h
    where
      by : (o : Option Container) (w : Result ℕ WriteError) → ((n : ℕ) → w ≡ Ok n → ⊥) → writer_output_by w o out ≡ out
      by o (Ok n) k = absurd (k n refl)
      by o (Err WriteError.BadList) k = refl
      by o (Err WriteError.NoRoom) k = refl

-- document 01's container in a list; the same with a number after it; a count of 2^32
pub example_to_write : to_write (0 ∷ []) [] (1 ∷ 0x61626364 ∷ 0 ∷ 0 ∷ 0 ∷ 0 ∷ 0 ∷ []) ≡ Some example
unfolding all_short slots_in begins_entry entry_in with_entry nothing_left entries_in listed with_code to_write
example_to_write = refl

pub left_over : to_write (0 ∷ []) [] (1 ∷ 0x61626364 ∷ 0 ∷ 0 ∷ 0 ∷ 0 ∷ 0 ∷ 0 ∷ []) ≡ None
unfolding all_short slots_in begins_entry entry_in with_entry nothing_left entries_in listed with_code to_write
left_over = refl

pub large_count : to_write (0 ∷ []) [] (2 ^ 32 ∷ []) ≡ None
unfolding listed with_code to_write
large_count = refl
