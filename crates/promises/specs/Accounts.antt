-- What the steps of a run cost, store and authorise (document 01, What every promise has to say).
use Rattle.std.specs.Prelude.{true, List, [], ◌∷◌, ◌++◌, ◌≡◌, ℕ, ◌+◌, Option, Some, None}
use Rattle.words.specs.Choice.{pick}
use Rattle.words.specs.Lists.{member}
use Rattle.isa.specs.Table.{price_of}
use Rattle.isa.specs.Forms.{form_of}
use Rattle.state.specs.Regs.{reg}
use Rattle.machine.specs.Machine.{Env, Machine}
use Rattle.machine.specs.Actions.{action_of}
use Rattle.machine.specs.StorageRules.{key_at}
use Rattle.machine.specs.Grants.{Grant, grant_by}
use Rattle.machine.specs.Rules.{bill}
use Rattle.machine.specs.Turns.{rule_of}
use Rattle.machine.specs.Trace.{Took}
use Rattle.machine.specs.declared.action.Action.{Action}
use Rattle.machine.specs.declared.action.Action.TheVariants as action
use Rattle.machine.specs.declared.action.Access.TheVariants.{SLoad, SStore}

-- ---- prices

-- a step's price: its base price, and the bill of its rule
unfoldable pub price_in : Env → Took → ℕ
price_in e t = price_of (form_of t.instr).op + bill (rule_of e t.instr t.on)

-- the prices of steps, summed
unfoldable pub bill_of : Env → List Took → ℕ
bill_of e [] = 0
bill_of e (t ∷ ts) = price_in e t + bill_of e ts

-- ---- rights

unfoldable pub stores_by : Action → Machine → List ℕ
stores_by action.Halt m = []
stores_by action.Nop m = []
stores_by action.Registers m = []
stores_by (action.Moves o) m = []
stores_by (action.Jumps o) m = []
stores_by (action.Storage (SLoad d a)) m = []
stores_by (action.Storage (SStore a b)) m = key_at m (reg m.regs a) ∷ []
stores_by (action.Posts o) m = []
stores_by (action.Hash a b c) m = []
stores_by (action.Checks o) m = []

-- the key that a step stores, if it does
unfoldable pub stores_of : Took → List ℕ
stores_of t = stores_by (action_of t.instr) t.on

-- a key made from a base that is declared for keyed writing
unfoldable pub writable : Env → Option Grant → List ℕ
writable e None = []
writable e (Some g) = pick (member g.base e.keys.keyed_writes) (g.key ∷ []) []

unfoldable pub grants_by : Env → Action → Machine → List ℕ
grants_by e action.Halt m = []
grants_by e action.Nop m = []
grants_by e action.Registers m = []
grants_by e (action.Moves o) m = []
grants_by e (action.Jumps o) m = []
grants_by e (action.Storage o) m = []
grants_by e (action.Posts o) m = []
grants_by e (action.Hash a b c) m = writable e (grant_by e a b c m)
grants_by e (action.Checks o) m = []

-- the key that a Hash authorises for keyed writing, if it does
unfoldable pub grants_of : Env → Took → List ℕ
grants_of e t = grants_by e (action_of t.instr) t.on

-- every step stores only what is allowed before it; a Hash allows its key to the steps after it
abbrev pub Righted : Env → (allowed : List ℕ) → List Took → Type 0
Righted e ks [] = Unit {0}
Righted e ks (t ∷ ts) = ((k : ℕ) → member k (stores_of t) ≡ true → member k ks ≡ true) × Righted e (grants_of e t ++ ks) ts

-- all keys that steps store
unfoldable pub stored_in : List Took → List ℕ
stored_in [] = []
stored_in (t ∷ ts) = stores_of t ++ stored_in ts
