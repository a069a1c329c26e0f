-- SLoad and SStore: the key (6), the right to it (12), a price, and room in every table (48) (document 01, The run).
use Rattle.std.specs.Prelude.{ℕ, length, take, drop}
use Rattle.words.specs.Bytes.{num}
use Rattle.state.specs.Regs.{reg}
use Rattle.state.specs.Memory.{inside}
use Rattle.keys.specs.Values.{may_load, may_store, look}
use Rattle.keys.specs.Steps.{fits, loaded, stored, store_price_at}
use Rattle.machine.specs.Machine.{Env, Machine, reg_to, keys_to}
use Rattle.machine.specs.Rules.{Rule, next, need, pay}
use Rattle.machine.specs.declared.action.Access.{Access}
use Rattle.machine.specs.declared.action.Access.TheVariants.{SLoad, SStore}

-- the key in the 32 bytes at a place
abbrev pub key_at : Machine → ℕ → ℕ
key_at m at = num (take 32 (drop at m.memory))

unfoldable pub loading : Env → (d k : ℕ) → Machine → Rule
loading e d k m =
    need (may_load e.keys.reads e.keys.writes m.keys.may_read k) 12
    (need (fits e.rooms (loaded e.keys m.keys k)) 48
    (next (reg_to (keys_to m (loaded e.keys m.keys k)) d (look e.keys m.keys k).value)))

unfoldable pub storing : Env → (k v : ℕ) → Machine → Rule
storing e k v m =
    need (may_store e.keys.writes m.keys.may_write k) 12
    (pay (store_price_at e.keys m.keys k v)
    (need (fits e.rooms (stored e.keys m.keys k v)) 48
    (next (keys_to m (stored e.keys m.keys k v)))))

unfoldable pub access_of : Env → Access → Machine → Rule
access_of e (SLoad d a) m = need (inside (length m.memory) (reg m.regs a) 32) 6 (loading e d (key_at m (reg m.regs a)) m)
access_of e (SStore a b) m = need (inside (length m.memory) (reg m.regs a) 32) 6 (storing e (key_at m (reg m.regs a)) (reg m.regs b) m)
