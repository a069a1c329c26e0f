-- A call: its opening, its run, and what stands in the answer and in every lent buffer at its end (document 01, Lent input and what is left).
use Rattle.std.specs.Prelude.{List, ◌++◌, ℕ, suc, ◌-◌, length, replicate}
use Rattle.words.specs.Refusals.{refusal}
use Rattle.words.specs.declared.refusal.Refusal.{Refusal}
use Rattle.tables.specs.Rows.{bytes_of}
use Rattle.keys.specs.Lent as tables
use Rattle.effects.specs.Log.{log_of}
use Rattle.state.specs.Regs.{cleared}
use Rattle.machine.specs.Machine.{Machine}
use Rattle.machine.specs.Turns.{End, halted, faulted, run_of}
use Rattle.machine.specs.Lent.{bufs}
use Rattle.opening.specs.Opening.{Input, Lent, Opening, refuse, start, opening_of}
use Rattle.interp.specs.declared.answer.Answer.{Answer}

-- an answer and the lent buffers at the end
pub record Called : Type 0 where
  pub answer : Answer
  pub lent : Lent

abbrev pub called : Answer → Lent → Called
called a b = record { answer = a; lent = b }

-- zero past how it ended and its fetches
abbrev pub refused_as : Refusal → (fetches : ℕ) → Answer
refused_as x k = record { end = x; fetches = k; used = 0; fetched = 0; changes = 0; log = 0; regs = cleared }

-- registers, used, fetches, keys fetched from the loader, keys stored, bytes of the log
abbrev pub halted_as : Machine → Answer
halted_as m = record {
  end = refusal 0 0;
  fetches = m.fetches;
  used = m.used;
  fetched = length m.keys.fetched;
  changes = length m.keys.changes;
  log = length (log_of m.effects);
  regs = m.regs;
}

-- as many zeroes
abbrev pub wiped : List ℕ → List ℕ
wiped l = replicate (length l) 0

-- these bytes, and zeroes to the end of the buffer
abbrev pub filled : List ℕ → List ℕ → List ℕ
filled bytes l = bytes ++ replicate (length l - length bytes) 0

abbrev pub lent_as : (memory stack : List ℕ) → tables.KeyBufs → (log starts : List ℕ) → Lent
lent_as mem st ks log starts = record { run = bufs mem st ks log; starts = starts }

-- every buffer zero
abbrev pub wiped_all : Lent → Lent
wiped_all b =
    let k = b.run.keys in
    lent_as (wiped b.run.memory) (wiped b.run.stack)
    (tables.key_bufs (wiped k.changes) (wiped k.fetched) (wiped k.may_read) (wiped k.may_write) (wiped k.paid))
    (wiped b.run.log) (wiped b.starts)

-- the keys stored with their last values, rising, and the effect log; every other buffer zero
abbrev pub kept_of : Machine → Lent → Lent
kept_of m b =
    let k = b.run.keys in
    lent_as (wiped b.run.memory) (wiped b.run.stack)
    (tables.key_bufs (filled (bytes_of 40 m.keys.changes) k.changes) (wiped k.fetched) (wiped k.may_read) (wiped k.may_write) (wiped k.paid))
    (filled (log_of m.effects) b.run.log) (wiped b.starts)

abbrev pub ending : End → Lent → Called
ending (halted m) b = called (halted_as m) (kept_of m b)
ending (faulted x k) b = called (refused_as x k) (wiped_all b)

-- a refused opening counts no fetch and leaves every buffer as it is; an accepted one runs, L - D + 1 turns at most
unfoldable pub running : Opening → Lent → Called
running (refuse x) b = called (refused_as x 0) b
running (start e m) b = ending (run_of (suc (e.limit - m.used)) e m) b

unfoldable pub call_of : Input → Lent → Called
call_of x b = running (opening_of x b) b
