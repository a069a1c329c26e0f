-- What is lent to a run about keys, as it stands: counts and bytes, and what they say (document 01, Lent input).
use Rattle.std.specs.Prelude.{Bool, true, false, List, ℕ, length, Option, Some, None}
use Rattle.words.specs.Bytes.{words_in}
use Rattle.tables.specs.Rows.{Row, rows}
use Rattle.keys.specs.Known.{KeyEnv, Keys, Rooms}
use Rattle.keys.specs.declared.counts.Counts.{Counts}
use Rattle.keys.specs.declared.look.TableRows.{TableRows}

-- the five tables' bytes
pub record KeyBufs : Type 0 where
  pub changes : List ℕ
  pub fetched : List ℕ
  pub may_read : List ℕ
  pub may_write : List ℕ
  pub paid : List ℕ

-- in the order of the calls
abbrev pub key_bufs : List ℕ → List ℕ → List ℕ → List ℕ → List ℕ → KeyBufs
key_bufs a b c d e = record { changes = a; fetched = b; may_read = c; may_write = d; paid = e }

-- the bytes that are only read
pub record Given : Type 0 where
  pub reads : List ℕ
  pub writes : List ℕ
  pub keyed_reads : List ℕ
  pub keyed_writes : List ℕ
  pub store : List ℕ
  pub loader : List ℕ

-- in the order of the calls
abbrev pub given : List ℕ → List ℕ → List ℕ → List ℕ → List ℕ → List ℕ → Given
given a b c d e f = record { reads = a; writes = b; keyed_reads = c; keyed_writes = d; store = e; loader = f }

-- a loader that is not there is not looked at
abbrev pub loader_of : Bool → List Row → Option (List Row)
loader_of true rs = Some rs
loader_of false rs = None

-- what a run is given: declared slots, the store's rows, the loader's
abbrev pub key_env_of : TableRows → Given → KeyEnv
key_env_of l g = record {
  reads = words_in g.reads;
  writes = words_in g.writes;
  keyed_reads = words_in g.keyed_reads;
  keyed_writes = words_in g.keyed_writes;
  store = rows 40 l.store g.store;
  loader = loader_of l.has_loader (rows 40 l.loader g.loader);
}

-- what a run knows: the counted rows of each table
abbrev pub keys_of : Counts → KeyBufs → Keys
keys_of c b = record {
  changes = rows 40 c.changes b.changes;
  fetched = rows 40 c.fetched b.fetched;
  may_read = rows 32 c.reads b.may_read;
  may_write = rows 32 c.writes b.may_write;
  paid = rows 32 c.paid b.paid;
}

-- the bytes lent for each table
abbrev pub rooms_of : KeyBufs → Rooms
rooms_of b = record {
  changes = length b.changes;
  fetched = length b.fetched;
  may_read = length b.may_read;
  may_write = length b.may_write;
  paid = length b.paid;
}
