-- Send and Emit (document 01, The run): region, prices, the total, durable targets, room in the log.
use Rattle.std.specs.Prelude.{List, ◌∷◌, ℕ, ◌+◌, ◌*◌, leb, length, take, drop, Option, Some, None}
use Rattle.words.specs.Choice.{pick}
use Rattle.state.specs.Regs.{reg}
use Rattle.state.specs.Memory.{inside}
use Rattle.effects.specs.Log.{Effect, log_of}
use Rattle.effects.specs.Targets.{Target, target_of, known_in, any_target}
use Rattle.effects.specs.Counts.{events}
use Rattle.machine.specs.Machine.{Env, Machine, effects_to, posted_to}
use Rattle.machine.specs.Rules.{Rule, next, need, pay}
use Rattle.machine.specs.declared.action.Post.{Post}
use Rattle.machine.specs.declared.action.Post.TheVariants.{Send, Emit}

-- a transfer's word is its amount, an event's its selector and four zero bytes
abbrev pub transfer : (amount : ℕ) → List ℕ → Effect
transfer amount bytes = record { kind = 0; word = amount; bytes = bytes }

abbrev pub event : (selector : ℕ) → List ℕ → Effect
event selector bytes = record { kind = 1; word = selector * 4294967296; bytes = bytes }

-- a target not sent to before, if any durable target of either kind exists: 227000
unfoldable pub target_price : Option Target → List Effect → ℕ
target_price None es = 0
target_price (Some t) es = pick (known_in t es) 0 (pick (any_target es) 227000 0)

-- 6250 from the fifth event
unfoldable pub event_price : List Effect → ℕ
event_price es = pick (leb 4 (events es)) 6250 0

-- the total with an effect's bytes and 32, of at most 1048576 (11)
abbrev pub total_with : Effect → Machine → ℕ
total_with x m = m.posted + length x.bytes + 32

-- into the log, if its record has room (48)
abbrev pub posting : Env → Effect → Machine → Rule
posting e x m = need (leb (length (log_of (x ∷ m.effects))) e.log_room) 48 (next (effects_to m (x ∷ m.effects)))

-- the bytes of a region
abbrev pub region : Machine → (at n : ℕ) → List ℕ
region m at n = take n (drop at m.memory)

unfoldable pub sending : Env → Effect → Machine → Rule
sending e x m =
    pay (2 * length x.bytes)
    (need (leb (total_with x m) 1048576) 11
    (pay (target_price (target_of x) m.effects)
    (posting e x (posted_to m (total_with x m)))))

unfoldable pub emitting : Env → Effect → Machine → Rule
emitting e x m =
    pay (2 * length x.bytes)
    (need (leb (total_with x m) 1048576) 11
    (pay (98 * length x.bytes)
    (pay (target_price (target_of x) m.effects)
    (pay (event_price m.effects)
    (posting e x (posted_to m (total_with x m)))))))

unfoldable pub post_of : Env → Post → Machine → Rule
post_of e (Send a b c) m =
    need (inside (length m.memory) (reg m.regs a) (reg m.regs b)) 6
    (sending e (transfer (reg m.regs c) (region m (reg m.regs a) (reg m.regs b))) m)
post_of e (Emit a b c) m =
    need (leb (reg m.regs c) 4294967295) 14
    (need (inside (length m.memory) (reg m.regs a) (reg m.regs b)) 6
    (emitting e (event (reg m.regs c) (region m (reg m.regs a) (reg m.regs b))) m))
