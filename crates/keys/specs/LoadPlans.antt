-- Whether a load has room, known before anything is changed, and what the load leaves.
use Rattle.std.specs.Prelude.{◌≡◌, Bool, ℕ}
use Rattle.keys.specs.Values.{look}
use Rattle.keys.specs.Steps.{fits, loaded}
use Rattle.keys.specs.Lent.{KeyBufs, Given, key_env_of, keys_of, rooms_of}
use Rattle.keys.specs.Sound.{Good, Leaves}
use Rattle.keys.specs.declared.counts.Counts.{Counts}
use Rattle.keys.specs.declared.look.Look.{Look}
use Rattle.keys.specs.declared.look.TableRows.{TableRows}

-- over good tables, and for the value at the key: whether every table holds what is loaded
abbrev pub PlansLoad : TableRows → Given → Counts → KeyBufs → ℕ → Look → Bool → Type 0
PlansLoad l g c b k seen room = Good c b → seen ≡ look (key_env_of l g) (keys_of c b) k → room ≡ fits (rooms_of b) (loaded (key_env_of l g) (keys_of c b) k)

-- over good tables, and for the value at the key, a load leaves what the rule says
abbrev pub Loads : TableRows → Given → ℕ → Look → (c r : Counts) → (b a : KeyBufs) → Type 0
Loads l g k seen c r b a = Good c b → seen ≡ look (key_env_of l g) (keys_of c b) k → Leaves (loaded (key_env_of l g) (keys_of c b) k) r a
