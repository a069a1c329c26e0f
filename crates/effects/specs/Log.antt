-- The effect log (document 01, Lent input: a record is its data, then a trailer of 13 bytes that points back).
use Rattle.std.specs.Prelude.{List, [], ◌∷◌, ◌++◌, ℕ, ◌<◌, length}
use Rattle.words.specs.Bytes.{be_bytes}

-- a transfer (kind 0, the word its amount) or an event (kind 1, the word its selector and four zeros), with its data
pub record Effect : Type 0 where
  pub kind : ℕ
  pub word : ℕ
  pub bytes : List ℕ

-- the bytes of a record: its data, then kind, word and data length
unfoldable pub record_of : Effect → List ℕ
record_of e = e.bytes ++ (e.kind ∷ (be_bytes 8 e.word ++ be_bytes 4 (length e.bytes)))

-- the bytes of a log, the newest record first in the list and last in the bytes
unfoldable pub log_of : List Effect → List ℕ
log_of [] = []
log_of (e ∷ es) = log_of es ++ record_of e

-- each record's word and data length fit its trailer
abbrev pub FitTrailers : List Effect → Type 0
FitTrailers [] = Unit {0}
FitTrailers (e ∷ es) = (e.word < 18446744073709551616) × (length e.bytes < 4294967296) × FitTrailers es
