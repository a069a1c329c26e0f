-- What a plan says of authorising a key before anything is changed, and what authorising leaves.
use Rattle.std.specs.Prelude.{◌≡◌, Bool, true, List, ℕ}
use Rattle.words.specs.Choice.{both}
use Rattle.words.specs.Lists.{member}
use Rattle.tables.specs.Table.{Table}
use Rattle.keys.specs.Known.{KeyEnv, Keys, Rooms}
use Rattle.keys.specs.Values.{row}
use Rattle.keys.specs.Steps.{fits, keyed, key_price_at, key_bytes_at, authorised}
use Rattle.keys.specs.Lent.{KeyBufs, Given, key_env_of, keys_of, rooms_of}
use Rattle.keys.specs.Sound.{Good, Leaves, holds}
use Rattle.keys.specs.declared.counts.Counts.{Counts}
use Rattle.keys.specs.declared.look.TableRows.{TableRows}
use Rattle.keys.specs.declared.authorise.KeyPlan.{KeyPlan}

-- whether the base is declared keyed, and for writing; the price, the bytes of new entries, and whether every table holds what is authorised
unfoldable pub key_plan : Rooms → KeyEnv → Keys → (base k : ℕ) → KeyPlan
key_plan r e s base k = record {
  keyed = keyed e base;
  write = member base e.keyed_writes;
  price = key_price_at s k;
  bytes = key_bytes_at e s base k;
  room = fits r (authorised e s base k);
}

-- a plan made over good tables is that plan
abbrev pub PlansKey : TableRows → Given → Counts → KeyBufs → (base k : ℕ) → KeyPlan → Type 0
PlansKey l g c b base k p = Good c b → p ≡ key_plan (rooms_of b) (key_env_of l g) (keys_of c b) base k

-- over good tables, and as planned, authorising leaves what the rule says
abbrev pub Authorises : TableRows → Given → (base k : ℕ) → KeyPlan → (c r : Counts) → (b a : KeyBufs) → Type 0
Authorises l g base k p c r b a =
    Good c b → p ≡ key_plan (rooms_of b) (key_env_of l g) (keys_of c b) base k → Leaves (authorised (key_env_of l g) (keys_of c b) base k) r a

-- the two lists, of so many rows, hold the key
unfoldable pub key_fits : (nr nw : ℕ) → ℕ → Bool → (readable writable : List ℕ) → Bool
key_fits nr nw k write readable writable = both (holds 32 nr true (row k 0) readable) (holds 32 nw write (row k 0) writable)

-- what authorising asks of the two lists
pub record KeyReady (c : Counts) (p : KeyPlan) (k : ℕ) (readable writable : List ℕ) : Type 0 where
  pub read_held : Table 32 c.reads readable
  pub write_held : Table 32 c.writes writable
  pub read_fit : holds 32 c.reads true (row k 0) readable ≡ true
  pub write_fit : holds 32 c.writes p.write (row k 0) writable ≡ true
