-- Crypto instructions: a price, then the next reply; after a Hash the key at its output may become authorised (document 01, The run).
use Rattle.std.specs.Prelude.{List, [], ◌∷◌, ℕ, ◌+◌, leb, length, take, drop, Option, Some, None}
use Rattle.words.specs.Choice.{pick, both}
use Rattle.words.specs.Bytes.{num}
use Rattle.meter.specs.Prices.{hash_price, message_price, merkle_price}
use Rattle.state.specs.Regs.{reg}
use Rattle.state.specs.Memory.{inside, written_at}
use Rattle.replies.specs.declared.reply.Reply.{Reply}
use Rattle.keys.specs.Steps.{fits, keyed, key_price_at, key_bytes_at, authorised}
use Rattle.machine.specs.Machine.{Env, Machine, reg_to, memory_to, keys_to, keyed_to, replies_to}
use Rattle.machine.specs.Rules.{Rule, next, pass, need, stop, pay}
use Rattle.machine.specs.StorageRules.{key_at}
use Rattle.machine.specs.declared.action.Check.{Check}
use Rattle.machine.specs.declared.action.Check.TheVariants.{VerifyMl, VerifySlh, MerkleVerify, Addr}

-- what a reply that is no fault does: a value into its register, its bytes into memory
abbrev pub replied : Reply → Machine → Machine
replied r m = memory_to (reg_to m r.register r.value) (written_at m.memory r.offset (take r.length r.bytes))

-- replies are used in order (47 when none is left); a fault row gives its fault and changes nothing
abbrev pub asking_of : List Reply → Machine → (Machine → Rule) → Rule
asking_of [] m then = stop 47 m
asking_of (r ∷ rs) m then = pass r.outcome (then (replied r (replies_to m rs)))

abbrev pub asking : Machine → (Machine → Rule) → Rule
asking m then = asking_of m.replies m then

-- a price beyond the base price, then the reply
unfoldable pub check_of : Env → Check → Machine → Rule
check_of e (VerifyMl b) m = pay (message_price (reg m.regs b) e.host.ml_signed) (asking m next)
check_of e (VerifySlh b) m = pay (message_price (reg m.regs b) e.host.slh_signed) (asking m next)
check_of e (MerkleVerify b) m = pay (merkle_price (reg m.regs b)) (asking m next)
check_of e Addr m = asking m next

-- the base of a Hash: the first 8 bytes, if there are 8 and they are in memory
unfoldable pub base_of : List ℕ → (at n : ℕ) → Option ℕ
base_of mem at n = pick (both (leb 8 n) (inside (length mem) at 8)) (Some (num (take 8 (drop at mem)))) None

-- 948 unless authorised already, then 32 for each new entry in a total of at most 1048576 (11), then room (48)
unfoldable pub authorising : Env → (base k : ℕ) → Machine → Rule
authorising e base k m =
    pay (key_price_at m.keys k)
    (need (leb (m.keyed + key_bytes_at e.keys m.keys base k) 1048576) 11
    (need (fits e.rooms (authorised e.keys m.keys base k)) 48
    (next (keys_to (keyed_to m (m.keyed + key_bytes_at e.keys m.keys base k)) (authorised e.keys m.keys base k)))))

-- if the base is declared keyed, the 32 bytes at the output, if in memory, become authorised
unfoldable pub tainting : Env → Option ℕ → (out : ℕ) → Machine → Rule
tainting e None out m = next m
tainting e (Some base) out m =
    pick (both (keyed e.keys base) (inside (length m.memory) out 32)) (authorising e base (key_at m out) m) (next m)

-- base and output are taken before the reply
unfoldable pub hash_of : Env → (a b c : ℕ) → Machine → Rule
hash_of e a b c m =
    pay (hash_price (reg m.regs b))
    (asking m (tainting e (base_of m.memory (reg m.regs a) (reg m.regs b)) (reg m.regs c)))
