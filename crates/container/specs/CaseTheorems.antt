-- Document 01's container, computed: it is written, read and found by its selector. Assumes nothing.
use Rattle.std.specs.Prelude.{◌≡◌, refl, List, [], ◌∷◌, ℕ}
use Rattle.words.specs.Bytes.{num, num_from, be_bytes, words_of}
use Rattle.words.specs.Refusals.{refusal}
use Rattle.container.specs.Canonical.{word_bytes, counted_bytes, entry_bytes, entries_bytes, canonical}
use Rattle.container.specs.Reader.{part, number, counted, entry, entries, container, whole, done, read_of}
use Rattle.container.specs.Container.{Container}
use Rattle.container.specs.Offsets.{offset_in, offset_of}
use Rattle.container.specs.Answers.{offset_answer}

-- one Halt, no constants, one entry `abcd` at 0 without slots
abbrev pub example : Container
example = record {
  code = 0 ∷ [];
  consts = [];
  entries = (record { selector = 0x61626364; offset = 0; reads = []; writes = []; keyed_reads = []; keyed_writes = [] }) ∷ [];
}

abbrev pub example_bytes : List ℕ
example_bytes =
    0x51 ∷ 0x56 ∷ 0x4D ∷ 0x31 ∷ 0 ∷ 0 ∷ 0 ∷ 1 ∷ 0 ∷ 0 ∷ 0 ∷ 0 ∷ 0 ∷ 0 ∷ 0 ∷ 0 ∷ 1 ∷ 0x61 ∷ 0x62 ∷ 0x63 ∷ 0x64 ∷ 0 ∷ 0 ∷ 0 ∷ 0
    ∷ 0 ∷ 0 ∷ 0 ∷ 0 ∷ 0 ∷ 0 ∷ 0 ∷ 0 ∷ 0 ∷ 0 ∷ 0 ∷ 0 ∷ 0 ∷ 0 ∷ 0 ∷ 0 ∷ []

pub example_written : canonical example ≡ example_bytes
unfolding be_bytes word_bytes counted_bytes entry_bytes entries_bytes canonical
example_written = refl

pub example_read : read_of example_bytes ≡ done example
unfolding num num_from part number words_of counted entry entries container whole read_of
example_read = refl

pub example_found : offset_answer (offset_of 0x61626364 (done example)) ≡ refusal 0 0
unfolding offset_in offset_of
example_found = refl
