-- What a plan says of a store before anything is changed, and what the store leaves.
use Rattle.std.specs.Prelude.{◌≡◌, Bool, true, List, ℕ}
use Rattle.words.specs.Choice.{both}
use Rattle.tables.specs.Table.{Table}
use Rattle.keys.specs.Known.{KeyEnv, Keys, Rooms}
use Rattle.keys.specs.Values.{row, look}
use Rattle.keys.specs.Steps.{fits, fresh_at, store_price_at, stored}
use Rattle.keys.specs.Lent.{KeyBufs, Given, key_env_of, keys_of, rooms_of}
use Rattle.keys.specs.Sound.{Good, Leaves, holds}
use Rattle.keys.specs.declared.counts.Counts.{Counts}
use Rattle.keys.specs.declared.look.Look.{Look}
use Rattle.keys.specs.declared.look.TableRows.{TableRows}
use Rattle.keys.specs.declared.store.StorePlan.{StorePlan}

-- the value before, whether it pays as fresh, the price, and whether every table holds what is stored
unfoldable pub store_plan : Rooms → KeyEnv → Keys → (k v : ℕ) → StorePlan
store_plan r e s k v = record { look = look e s k; fresh = fresh_at e s k v; price = store_price_at e s k v; room = fits r (stored e s k v) }

-- a plan made over good tables is that plan
abbrev pub PlansStore : TableRows → Given → Counts → KeyBufs → (k v : ℕ) → StorePlan → Type 0
PlansStore l g c b k v p = Good c b → p ≡ store_plan (rooms_of b) (key_env_of l g) (keys_of c b) k v

-- over good tables, and as planned, a store leaves what the rule says
abbrev pub Stores : TableRows → Given → (k v : ℕ) → StorePlan → (c r : Counts) → (b a : KeyBufs) → Type 0
Stores l g k v p c r b a = Good c b → p ≡ store_plan (rooms_of b) (key_env_of l g) (keys_of c b) k v → Leaves (stored (key_env_of l g) (keys_of c b) k v) r a

-- the three tables that a store changes, of so many rows, hold what it puts into them
unfoldable pub store_fits : (nc nf np : ℕ) (k v : ℕ) → Look → Bool → (changes fetched paid : List ℕ) → Bool
store_fits nc nf np k v seen fresh changes fetched paid =
    both (holds 40 nc true (row k v) changes)
    (both (holds 40 nf seen.came (row k seen.value) fetched)
    (holds 32 np fresh (row k 0) paid))

-- what a store asks of its three tables
pub record StoreReady (c : Counts) (p : StorePlan) (k v : ℕ) (changes fetched paid : List ℕ) : Type 0 where
  pub changes_held : Table 40 c.changes changes
  pub fetched_held : Table 40 c.fetched fetched
  pub paid_held : Table 32 c.paid paid
  pub changes_fit : holds 40 c.changes true (row k v) changes ≡ true
  pub fetched_fit : holds 40 c.fetched p.look.came (row k p.look.value) fetched ≡ true
  pub paid_fit : holds 32 c.paid p.fresh (row k 0) paid ≡ true
