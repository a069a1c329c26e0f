-- What stands in the parts and in the buffers of a run.
use Rattle.std.specs.Prelude.{◌≡◌, List, ℕ, length}
use Rattle.machine.specs.Lent.{Bufs, lent_to}
use Rattle.opening.specs.Opening.{Lent}
use Rattle.interp.specs.Ties.{GivenParts, parts}
use Rattle.opening.specs.declared.open.Opened.{Opened}
use Rattle.interp.specs.Entered.{Entered, Enters}
use Rattle.interp.specs.declared.answer.Answer.{Answer}
use Rattle.interp.specs.declared.program.Input.{Input}
use Rattle.interp.specs.declared.program.Program.{Program}
use Rattle.interp.specs.declared.work.Work.{Work}

abbrev pub parts_of : Program → GivenParts
parts_of p =
    parts p.code.now p.consts.now p.reads.now p.writes.now p.keyed_reads.now p.keyed_writes.now p.store.now p.loader.now p.replies.now p.starts.now p.lent p.host

abbrev pub held : Work → Bufs
held w = lent_to w.memory.now w.stack.now w.changes.now w.fetched.now w.readable.now w.writable.now w.paid.now w.log.now

-- with the map of starts
abbrev pub held_with : Work → List ℕ → Lent
held_with w starts = record { run = held w; starts = starts }

-- the buffers stay as long as they were
pub record Sizes (a b : Bufs) : Type 0 where
  pub memory : length a.memory ≡ length b.memory
  pub stack : length a.stack ≡ length b.stack
  pub changes : length a.keys.changes ≡ length b.keys.changes
  pub fetched : length a.keys.fetched ≡ length b.keys.fetched
  pub readable : length a.keys.may_read ≡ length b.keys.may_read
  pub writable : length a.keys.may_write ≡ length b.keys.may_write
  pub paid : length a.keys.paid ≡ length b.keys.paid
  pub log : length a.log ≡ length b.log

-- the same references, which reach as far as they did
pub record Kept (b a : Work) : Type 0 where
  pub memory : a.memory.ghost_name ≡ b.memory.ghost_name
  pub stack : a.stack.ghost_name ≡ b.stack.ghost_name
  pub changes : a.changes.ghost_name ≡ b.changes.ghost_name
  pub fetched : a.fetched.ghost_name ≡ b.fetched.ghost_name
  pub readable : a.readable.ghost_name ≡ b.readable.ghost_name
  pub writable : a.writable.ghost_name ≡ b.writable.ghost_name
  pub paid : a.paid.ghost_name ≡ b.paid.ghost_name
  pub log : a.log.ghost_name ≡ b.log.ghost_name
  pub sizes : Sizes (held a) (held b)

-- an opening of what a call is given, and what comes of it
abbrev pub EnteredIn : Opened → Input → Lent → Type 0
EnteredIn o x b = Entered o x.call.limit x.call.host x.container.now x.store.now x.loader.now x.replies.now x.preload.now b

abbrev pub EntersIn : Opened → Input → Lent → Answer → Lent → Type 0
EntersIn o x b r a = Enters o x.call.limit x.call.host x.container.now x.store.now x.loader.now x.replies.now x.preload.now b r a
