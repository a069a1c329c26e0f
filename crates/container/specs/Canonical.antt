-- The canonical bytes of a container (document 01, Container). Counts are 4 bytes, slots and constants 8, all big-endian.
use Rattle.std.specs.Prelude.{List, [], ◌∷◌, ◌++◌, ℕ, ◌^◌, ◌<◌, length}
use Rattle.words.specs.Bytes.{be_bytes, Bytes}
use Rattle.container.specs.Container.{Entry, Container, tag}

unfoldable pub word_bytes : List ℕ → List ℕ
word_bytes [] = []
word_bytes (x ∷ xs) = be_bytes 8 x ++ word_bytes xs

-- how many, then the words
unfoldable pub counted_bytes : List ℕ → List ℕ
counted_bytes xs = be_bytes 4 (length xs) ++ word_bytes xs

unfoldable pub entry_bytes : Entry → List ℕ
entry_bytes e =
    be_bytes 4 e.selector ++ (be_bytes 4 e.offset
    ++ (counted_bytes e.reads ++ (counted_bytes e.writes ++ (counted_bytes e.keyed_reads ++ counted_bytes e.keyed_writes))))

unfoldable pub entries_bytes : List Entry → List ℕ
entries_bytes [] = []
entries_bytes (e ∷ es) = entry_bytes e ++ entries_bytes es

unfoldable pub canonical : Container → List ℕ
canonical c =
    be_bytes 4 tag ++ (be_bytes 4 (length c.code) ++ (c.code
    ++ (counted_bytes c.consts ++ (be_bytes 4 (length c.entries) ++ entries_bytes c.entries))))

-- what the writer can write: bytes, words and counts within their widths
abbrev pub Words : List ℕ → Type 0
Words [] = Unit {0}
Words (x ∷ xs) = (x < 2 ^ 64) × Words xs

pub record CountedWords (xs : List ℕ) : Type 0 where
  pub count : length xs < 2 ^ 32
  pub words : Words xs

pub record WritableEntry (e : Entry) : Type 0 where
  pub selector : e.selector < 2 ^ 32
  pub offset : e.offset < 2 ^ 32
  pub reads : CountedWords e.reads
  pub writes : CountedWords e.writes
  pub keyed_reads : CountedWords e.keyed_reads
  pub keyed_writes : CountedWords e.keyed_writes

abbrev pub WritableEntries : List Entry → Type 0
WritableEntries [] = Unit {0}
WritableEntries (e ∷ es) = WritableEntry e × WritableEntries es

pub record Writable (c : Container) : Type 0 where
  pub code : length c.code < 2 ^ 32
  pub bytes : Bytes c.code
  pub consts : CountedWords c.consts
  pub count : length c.entries < 2 ^ 32
  pub entries : WritableEntries c.entries
