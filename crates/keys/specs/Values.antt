-- The value at a key, and the right to it (document 01, The run: SLoad and SStore).
use Rattle.std.specs.Prelude.{Bool, true, false, List, ℕ, Option, Some, None, is_some}
use Rattle.std.specs.Option.{unwrap_or}
use Rattle.words.specs.Choice.{pick, either}
use Rattle.words.specs.Lists.{member}
use Rattle.tables.specs.Rows.{Row, lookup, insert}
use Rattle.keys.specs.Known.{KeyEnv, Keys}
use Rattle.keys.specs.declared.look.Look.{Look}

-- a key with a value
abbrev pub row : ℕ → ℕ → Row
row k v = record { key = k; value = v }

-- whether a key stands in rows
abbrev pub has : ℕ → List Row → Bool
has k rs = is_some (lookup k rs)

-- rows with one put in, if so told
abbrev pub put_if : Bool → Row → List Row → List Row
put_if t x rs = pick t (insert x rs) rs

-- declared for writing, or among the keys that a Hash made writable; a slot's key is its number
abbrev pub may_store : (writes : List ℕ) (writable : List Row) → ℕ → Bool
may_store ws rs k = either (member k ws) (has k rs)

-- declared for reading or for writing, or among the keys that a Hash made readable
abbrev pub may_load : (reads writes : List ℕ) (readable : List Row) → ℕ → Bool
may_load ds ws rs k = either (member k ds) (either (member k ws) (has k rs))

-- 0 where there is no value
unfoldable pub or_zero : Option ℕ → ℕ
or_zero o = unwrap_or o 0

-- from the loader it comes just now; a loader answers 0 for a key that it does not have
unfoldable pub from_loader : Option (List Row) → ℕ → Look
from_loader None k = record { value = 0; came = false }
from_loader (Some ls) k = record { value = or_zero (lookup k ls); came = true }

-- a value that stands, else what is looked up next
unfoldable pub first_of : Option ℕ → Look → Look
first_of None l = l
first_of (Some v) l = record { value = v; came = false }

-- stored, else the store's, else fetched before, else the loader's, else 0
unfoldable pub look_in : (changes store fetched : List Row) → Option (List Row) → ℕ → Look
look_in cs ss fs ls k = first_of (lookup k cs) (first_of (lookup k ss) (first_of (lookup k fs) (from_loader ls k)))

-- so for a key of a run
unfoldable pub look : KeyEnv → Keys → ℕ → Look
look e s k = look_in s.changes e.store s.fetched e.loader k

-- a value that came from the loader is remembered
unfoldable pub fetched_with : Look → ℕ → List Row → List Row
fetched_with l k fs = put_if l.came (row k l.value) fs
