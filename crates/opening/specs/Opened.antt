-- What the code's opening tells of document 01's.
use Rattle.std.specs.Prelude.{◌≡◌, Bool, true, false, List, ℕ, ◌+◌, ◌*◌, ◌≤◌, ◌<◌, length, take, drop, Some, Result, Ok, Err}
use Rattle.words.specs.Bytes.{words_of}
use Rattle.meter.specs.Prices.{dispatch_price}
use Rattle.tables.specs.Checked.{checked_of}
use Rattle.container.specs.Container.{Entry, Container}
use Rattle.container.specs.Reader.{read_of}
use Rattle.container.specs.declared.entries.Slots.{Slots}
use Rattle.opening.specs.Opening.{Input, Lent, start, refuse, env_of, machine_for, opening_read}
use Rattle.state.specs.Faults.{fault_refusal}
use Rattle.state.specs.declared.fault.Fault.{Fault}
use Rattle.machine.specs.declared.host.Host.{Host}
use Rattle.opening.specs.declared.open.Call.{Call}
use Rattle.opening.specs.declared.open.Opened.{Opened}
use Rattle.words.specs.declared.refusal.Refusal.{Refusal}

-- an entry's call, by a selector, and the call of the genesis entry
abbrev pub entry_call : (selector limit : ℕ) → Host → (has_loader : Bool) → Call
entry_call selector limit h p = record { entry = true; selector = selector; limit = limit; host = h; has_loader = p }

abbrev pub genesis_call : (limit : ℕ) → Host → (has_loader : Bool) → Call
genesis_call limit h p = record { entry = false; selector = h.genesis; limit = limit; host = h; has_loader = p }

-- the input of a call
abbrev pub input_of : Call → (container store loader replies preload : List ℕ) → Input
input_of c s st ld rp pre = record {
  container = s;
  entry = c.entry;
  selector = c.selector;
  limit = c.limit;
  host = c.host;
  store = st;
  has_loader = c.has_loader;
  loader = ld;
  replies = rp;
  preload = pre;
}

-- words that stand in bytes: where, how many, and which
pub record Standing (s : List ℕ) (at count : ℕ) (words : List ℕ) : Type 0 where
  pub within : at + count * 8 ≤ length s
  pub are : words_of count (take (count * 8) (drop at s)) ≡ words

abbrev pub Listed : List ℕ → Slots → List ℕ → Type 0
Listed s l words = Standing s l.at l.count words

-- a container and an entry that the opening starts from, and where their parts stand
pub record OpenedFrom (x : Input) (b : Lent) (o : Opened) : Type 0 where
  pub container : Container
  pub entry : Entry
  pub is : opening_read x b (read_of x.container) ≡ start (env_of x b container entry) (machine_for x container entry)
  pub code_within : o.layout.code_at + o.layout.code ≤ length x.container
  pub code : take o.layout.code (drop o.layout.code_at x.container) ≡ container.code
  pub code_small : length container.code ≤ 65536
  pub consts : Standing x.container o.layout.consts_at o.layout.consts container.consts
  pub reads : Listed x.container o.entry.reads entry.reads
  pub writes : Listed x.container o.entry.writes entry.writes
  pub keyed_reads : Listed x.container o.entry.keyed_reads entry.keyed_reads
  pub keyed_writes : Listed x.container o.entry.keyed_writes entry.keyed_writes
  pub offset : o.entry.offset ≡ entry.offset
  pub offset_small : entry.offset < 4294967296
  pub store : checked_of 40 x.store ≡ Some o.lent.store
  pub has_loader : o.lent.has_loader ≡ x.has_loader
  pub loader : x.has_loader ≡ true → checked_of 40 x.loader ≡ Some o.lent.loader
  pub used : o.used ≡ dispatch_price (length container.code)
  pub afford : dispatch_price (length container.code) ≤ x.limit

abbrev pub ToldOf : Input → Lent → Result Opened Refusal → Type 0
ToldOf x b (Ok o) = OpenedFrom x b o
ToldOf x b (Err n) = opening_read x b (read_of x.container) ≡ refuse n

-- a fault as document 01 numbers it
abbrev pub numbered : Result Opened Fault → Result Opened Refusal
numbered (Ok o) = Ok o
numbered (Err n) = Err (fault_refusal n)

-- whatever is lent, and whatever the preload is
abbrev pub Opens : Call → (container store loader replies : List ℕ) → Result Opened Refusal → Type 0
Opens c s st ld rp r = (pre : List ℕ) (b : Lent) → ToldOf (input_of c s st ld rp pre) b r
