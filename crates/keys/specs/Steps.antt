-- What loading, storing and authorising a key leave, and what they cost beyond the base price (document 01, The run: SLoad, SStore, Hash).
use Rattle.std.specs.Prelude.{Bool, not, ℕ, ◌+◌, ◌*◌, leb, eqb, length}
use Rattle.words.specs.Choice.{pick, both, either, bit}
use Rattle.words.specs.Lists.{member}
use Rattle.tables.specs.Rows.{insert}
use Rattle.keys.specs.Known.{KeyEnv, Keys, Rooms}
use Rattle.keys.specs.Values.{row, has, put_if, look, fetched_with}

-- every table within its bytes
unfoldable pub fits : Rooms → Keys → Bool
fits r s =
    both (leb (length s.changes * 40) r.changes)
    (both (leb (length s.fetched * 40) r.fetched)
    (both (leb (length s.may_read * 32) r.may_read)
    (both (leb (length s.may_write * 32) r.may_write)
    (leb (length s.paid * 32) r.paid))))

-- ---- loading a key

-- a value that came from the loader is remembered
unfoldable pub loaded : KeyEnv → Keys → ℕ → Keys
loaded e s k = record {
  changes = s.changes;
  fetched = fetched_with (look e s k) k s.fetched;
  may_read = s.may_read;
  may_write = s.may_write;
  paid = s.paid;
}

-- ---- storing v at a key

-- fresh: not zero now, zero before, not yet paid; it pays as fresh if the key is write-authorised or 8 or more keys are dirty
unfoldable pub pays_fresh : (v prior : ℕ) (paid authorised : Bool) (dirty : ℕ) → Bool
pays_fresh v prior paid authorised dirty = both (not (eqb v 0)) (both (eqb prior 0) (both (not paid) (either authorised (leb 8 dirty))))

-- so for a key of a run
unfoldable pub fresh_at : KeyEnv → Keys → (k v : ℕ) → Bool
fresh_at e s k v = pays_fresh v (look e s k).value (has k s.paid) (has k s.may_write) (length s.changes)

-- 227000 as fresh; otherwise 227000 for a key newly dirty that makes more than 8
unfoldable pub store_price : (fresh dirty : Bool) (count : ℕ) → ℕ
store_price fresh dirty count = pick fresh 227000 (pick dirty 0 (pick (leb 8 count) 227000 0))

-- so for a key of a run
unfoldable pub store_price_at : KeyEnv → Keys → (k v : ℕ) → ℕ
store_price_at e s k v = store_price (fresh_at e s k v) (has k s.changes) (length s.changes)

-- the value stands in changes; a key that pays as fresh has paid
unfoldable pub stored : KeyEnv → Keys → (k v : ℕ) → Keys
stored e s k v = record {
  changes = insert (row k v) s.changes;
  fetched = fetched_with (look e s k) k s.fetched;
  may_read = s.may_read;
  may_write = s.may_write;
  paid = put_if (fresh_at e s k v) (row k 0) s.paid;
}

-- ---- authorising a key made from a base

-- the base is declared keyed; a keyed write gives both lists
unfoldable pub keyed : KeyEnv → ℕ → Bool
keyed e base = either (member base e.keyed_writes) (member base e.keyed_reads)

-- 948 unless the key is authorised already
unfoldable pub key_price : (written read : Bool) → ℕ
key_price written read = pick (either written read) 0 948

-- so for a key of a run
unfoldable pub key_price_at : Keys → ℕ → ℕ
key_price_at s k = key_price (has k s.may_write) (has k s.may_read)

-- 32 for each new entry of a list
unfoldable pub key_bytes : (write written read : Bool) → ℕ
key_bytes write written read = 32 * (bit (both write (not written)) + bit (not read))

-- so for a key of a run
unfoldable pub key_bytes_at : KeyEnv → Keys → (base k : ℕ) → ℕ
key_bytes_at e s base k = key_bytes (member base e.keyed_writes) (has k s.may_write) (has k s.may_read)

-- readable, and writable if the base is a keyed write
unfoldable pub authorised : KeyEnv → Keys → (base k : ℕ) → Keys
authorised e s base k = record {
  changes = s.changes;
  fetched = s.fetched;
  may_read = insert (row k 0) s.may_read;
  may_write = put_if (member base e.keyed_writes) (row k 0) s.may_write;
  paid = s.paid;
}
