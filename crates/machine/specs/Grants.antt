-- What a Hash authorises (document 01, The run: Hash).
use Rattle.std.specs.Prelude.{List, [], ◌∷◌, ℕ, length, take, drop, Option, Some, None}
use Rattle.words.specs.Bytes.{num}
use Rattle.words.specs.Choice.{pick, both}
use Rattle.state.specs.Regs.{reg}
use Rattle.state.specs.Memory.{inside, written_at}
use Rattle.replies.specs.declared.reply.Reply.{Reply}
use Rattle.keys.specs.Known as known
use Rattle.keys.specs.Steps.{keyed}
use Rattle.machine.specs.Machine.{Env, Machine}
use Rattle.machine.specs.CryptoRules.{base_of}

-- a key, and the base that it was made from
pub record Grant : Type 0 where
  pub base : ℕ
  pub key : ℕ

-- the 32 bytes at the output, if the base is declared keyed and they are in memory
unfoldable pub grant_of : known.KeyEnv → Option ℕ → (out : ℕ) → (memory : List ℕ) → Option Grant
grant_of e None out mem = None
grant_of e (Some base) out mem =
    pick (both (keyed e base) (inside (length mem) out 32)) (Some (record { base = base; key = num (take 32 (drop out mem)) })) None

-- the base is read before the reply's bytes are written, the key after
unfoldable pub grant_after : List Reply → known.KeyEnv → Option ℕ → (out : ℕ) → (memory : List ℕ) → Option Grant
grant_after [] e base out mem = None
grant_after (r ∷ rs) e base out mem = grant_of e base out (written_at mem r.offset (take r.length r.bytes))

abbrev pub grant_by : Env → (a b c : ℕ) → Machine → Option Grant
grant_by e a b c m = grant_after m.replies e.keys (base_of m.memory (reg m.regs a) (reg m.regs b)) (reg m.regs c) m.memory
