-- Opening a call (document 01, Numbers returned: the order of refusals; Lent input): an environment and a machine to start from, or a refusal.
use Rattle.std.specs.Prelude.{Bool, not, List, [], ◌∷◌, ◌++◌, ℕ, ◌-◌, ◌/◌, leb, eqb, length, take, replicate}
use Rattle.words.specs.Choice.{pick, both}
use Rattle.words.specs.Lists.{member}
use Rattle.words.specs.Refusals.{refusal}
use Rattle.words.specs.declared.refusal.Refusal.{Refusal}
use Rattle.meter.specs.Prices.{dispatch_price}
use Rattle.tables.specs.Rows.{rows}
use Rattle.tables.specs.Checked.{checked_of}
use Rattle.tables.specs.Answers.{checked_number}
use Rattle.replies.specs.Answers.{replies_number}
use Rattle.replies.specs.Replies.{replies_of}
use Rattle.container.specs.Container.{Entry, Container, slot_count}
use Rattle.container.specs.Reader.{Read, done, refused, read_of}
use Rattle.container.specs.Answers.{read_error}
use Rattle.starts.specs.Starts.{starts_of}
use Rattle.keys.specs.Lent.{loader_of, rooms_of}
use Rattle.keys.specs.Opening.{no_keys}
use Rattle.state.specs.Regs.{cleared}
use Rattle.machine.specs.Machine.{Env, Machine, machine}
use Rattle.machine.specs.declared.host.Host.{Host}
use Rattle.machine.specs.Lent.{Bufs, replies_left}

-- what a call is given; only an entry's call refuses the genesis selector
pub record Input : Type 0 where
  pub container : List ℕ
  pub entry : Bool
  pub selector : ℕ
  pub limit : ℕ
  pub host : Host
  pub store : List ℕ
  pub has_loader : Bool
  pub loader : List ℕ
  pub replies : List ℕ
  pub preload : List ℕ

-- what it is lent: what a run changes, and the boundary map
pub record Lent : Type 0 where
  pub run : Bufs
  pub starts : List ℕ

pub data Opening : Type 0 where
  refuse : Refusal → Opening
  start : Env → Machine → Opening

-- on with the opening, or this refusal
abbrev pub must : Bool → ℕ → Opening → Opening
must ok n then = pick ok then (refuse (refusal n 0))

-- memory of 65536 bytes, a stack of 1024 words, a map of 8192 bytes
abbrev pub sizes_fit : Lent → Bool
sizes_fit b = both (eqb (length b.run.memory) 65536) (both (eqb (length b.run.stack) 1024) (eqb (length b.starts) 8192))

-- store, then loader if there is one, then replies
abbrev pub tables_number : Input → ℕ
tables_number x =
    pick (eqb (checked_number (checked_of 40 x.store)) 0)
    (pick (both x.has_loader (not (eqb (checked_number (checked_of 40 x.loader)) 0))) 45 (replies_number (replies_of x.replies)))
    45

-- at most 65536 bytes of code, 4096 constants, 256 entries
abbrev pub within : Container → Bool
within c = both (leb (length c.code) 65536) (both (leb (length c.consts) 4096) (leb (length c.entries) 256))

-- the entries with a selector
unfoldable pub matching : ℕ → List Entry → List Entry
matching s [] = []
matching s (e ∷ es) = pick (eqb e.selector s) (e ∷ matching s es) (matching s es)

-- the preload, cut at 65536, and zeroes after it
abbrev pub memory_of : List ℕ → List ℕ
memory_of pre = take 65536 pre ++ replicate (65536 - length pre) 0

unfoldable pub env_of : Input → Lent → Container → Entry → Env
env_of x b c e = record {
  code = c.code;
  consts = c.consts;
  starts = starts_of c.code;
  keys = record {
    reads = e.reads;
    writes = e.writes;
    keyed_reads = e.keyed_reads;
    keyed_writes = e.keyed_writes;
    store = rows 40 (length x.store / 40) x.store;
    loader = loader_of x.has_loader (rows 40 (length x.loader / 40) x.loader);
  };
  limit = x.limit;
  host = x.host;
  rooms = rooms_of b.run.keys;
  log_room = length b.run.log;
}

-- registers zero, the preload in memory, nothing stacked, known or posted, all replies left, D used
unfoldable pub machine_for : Input → Container → Entry → Machine
machine_for x c e = machine cleared (memory_of x.preload) [] e.offset no_keys [] 0 0 (replies_left x.replies 0) (dispatch_price (length c.code)) 0

-- slots of the entry, D within the limit, the offset an instruction start
unfoldable pub opening_at : Input → Lent → Container → Entry → Opening
opening_at x b c e =
    must (leb (slot_count e) 4096) 14
    (must (leb (dispatch_price (length c.code)) x.limit) 1
    (must (member e.offset (starts_of c.code)) 14
    (start (env_of x b c e) (machine_for x c e))))

-- absent 9, present twice 14
unfoldable pub opening_one : Input → Lent → Container → List Entry → Opening
opening_one x b c [] = refuse (refusal 9 0)
opening_one x b c (e ∷ []) = opening_at x b c e
opening_one x b c (e ∷ f ∷ es) = refuse (refusal 14 0)

-- store and loader 45, replies 46; then the entry
unfoldable pub opening_in : Input → Lent → Container → Opening
opening_in x b c =
    must (eqb (tables_number x) 0) (tables_number x)
    (must (not (both x.entry (eqb x.selector x.host.genesis))) 9
    (must (within c) 14
    (opening_one x b c (matching x.selector c.entries))))

unfoldable pub opening_read : Input → Lent → Read → Opening
opening_read x b (refused r) = refuse (read_error r)
opening_read x b (done c) = opening_in x b c

unfoldable pub opening_of : Input → Lent → Opening
opening_of x b = must (sizes_fit b) 44 (opening_read x b (read_of x.container))
