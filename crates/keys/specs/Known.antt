-- What a run is given about keys, and what it knows of them (document 01, Lent input and The run).
use Rattle.std.specs.Prelude.{List, ℕ, Option}
use Rattle.tables.specs.Rows.{Row}

-- the slots that an entry declares, the store, and the loader if there is one: never changed
pub record KeyEnv : Type 0 where
  pub reads : List ℕ
  pub writes : List ℕ
  pub keyed_reads : List ℕ
  pub keyed_writes : List ℕ
  pub store : List Row
  pub loader : Option (List Row)

-- keys stored with their last values, values fetched from the loader, keys authorised for reading and writing, keys that paid as fresh
pub record Keys : Type 0 where
  pub changes : List Row
  pub fetched : List Row
  pub may_read : List Row
  pub may_write : List Row
  pub paid : List Row

-- the bytes lent for each table
pub record Rooms : Type 0 where
  pub changes : ℕ
  pub fetched : ℕ
  pub may_read : ℕ
  pub may_write : ℕ
  pub paid : ℕ
