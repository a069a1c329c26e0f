-- The bytes that a run is lent, and the replies that stand in bytes.
use Rattle.std.specs.Prelude.{List, [], ◌∷◌, ℕ, zero, suc, ◌-◌, ◌*◌, ◌/◌, length, take, drop}
use Rattle.replies.specs.Reply.{reply_of}
use Rattle.replies.specs.declared.reply.Reply.{Reply}
use Rattle.keys.specs.Lent as tables

-- the lent bytes that a run changes
pub record Bufs : Type 0 where
  pub memory : List ℕ
  pub stack : List ℕ
  pub keys : tables.KeyBufs
  pub log : List ℕ

abbrev pub bufs : (memory stack : List ℕ) → tables.KeyBufs → (log : List ℕ) → Bufs
bufs mem st ks log = record { memory = mem; stack = st; keys = ks; log = log }

-- the same, with the key tables one by one
abbrev pub lent_to : (memory stack changes fetched readable writable paid log : List ℕ) → Bufs
lent_to memory stack changes fetched readable writable paid log = bufs memory stack (tables.key_bufs changes fetched readable writable paid) log

-- n replies in bytes
unfoldable pub replies_in : ℕ → List ℕ → List Reply
replies_in zero s = []
replies_in (suc n) s = reply_of (take 48 s) ∷ replies_in n (drop 48 s)

-- the replies left after the first k
unfoldable pub replies_left : List ℕ → ℕ → List Reply
replies_left s k = replies_in (length s / 48 - k) (drop (k * 48) s)
