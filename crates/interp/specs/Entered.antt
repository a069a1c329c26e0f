-- An accepted opening, what it was made from, and the parts that its run is given.
use Rattle.std.specs.Prelude.{◌≡◌, List, ℕ, length, take, drop}
use Rattle.container.specs.Entries.{slots, slot_bytes}
use Rattle.container.specs.Reader.{read_of}
use Rattle.machine.specs.declared.host.Host.{Host}
use Rattle.opening.specs.Opening.{Input, Lent, opening_read}
use Rattle.opening.specs.Opened.{OpenedFrom}
use Rattle.opening.specs.declared.open.Opened.{Opened}
use Rattle.interp.specs.Call.{called, running}
use Rattle.interp.specs.declared.answer.Answer.{Answer}

-- the input that was opened, that these are its bytes and numbers, and buffers of the right sizes
pub record Entered (o : Opened) (limit : ℕ) (host : Host) (s st ld rp pre : List ℕ) (b : Lent) : Type 0 where
  pub input : Input
  pub found : OpenedFrom input b o
  pub container : input.container ≡ s
  pub store : input.store ≡ st
  pub loader : input.loader ≡ ld
  pub replies : input.replies ≡ rp
  pub preload : input.preload ≡ pre
  pub limit_is : input.limit ≡ limit
  pub host_is : input.host ≡ host
  pub memory_size : length b.run.memory ≡ 65536
  pub stack_size : length b.run.stack ≡ 1024
  pub starts_size : length b.starts ≡ 8192

-- the parts of the container that a run is given, where they stand
pub record Cut (o : Opened) (s code consts reads writes keyed_reads keyed_writes : List ℕ) : Type 0 where
  pub code_is : code ≡ take o.layout.code (drop o.layout.code_at s)
  pub consts_are : consts ≡ slot_bytes s (slots o.layout.consts_at o.layout.consts)
  pub reads_are : reads ≡ slot_bytes s o.entry.reads
  pub writes_are : writes ≡ slot_bytes s o.entry.writes
  pub keyed_reads_are : keyed_reads ≡ slot_bytes s o.entry.keyed_reads
  pub keyed_writes_are : keyed_writes ≡ slot_bytes s o.entry.keyed_writes

abbrev pub Enters : Opened → ℕ → Host → (s st ld rp pre : List ℕ) → Lent → Answer → Lent → Type 0
Enters o limit host s st ld rp pre b r a =
    (x : Entered o limit host s st ld rp pre b) → called r a ≡ running (opening_read x.input b (read_of x.input.container)) b
