-- What a run starts from.
use Rattle.std.specs.Prelude.{◌≡◌, List, ◌++◌, ℕ, length, take, drop}
use Rattle.starts.specs.Starts.{starts_of}
use Rattle.starts.specs.Marks.{Marks}
use Rattle.keys.specs.Opening.{no_rows}
use Rattle.opening.specs.Opening.{Lent}
use Rattle.interp.specs.Call.{wiped}
use Rattle.machine.specs.RunParts.{run}
use Rattle.machine.specs.declared.run.Run.{Run}

-- nothing stacked, known or posted, no reply used
abbrev pub first_run : (offset used limit : ℕ) → Run
first_run offset used limit = run offset 0 no_rows 0 0 0 0 0 (record { used = used; limit = limit }) 0

-- a is b with all buffers zeroed, then the starts marked and the preload loaded
pub record Begins (code pre : List ℕ) (b a : Lent) : Type 0 where
  pub memory : a.run.memory ≡ take (length b.run.memory) pre ++ drop (length pre) (wiped b.run.memory)
  pub stack : a.run.stack ≡ wiped b.run.stack
  pub changes : a.run.keys.changes ≡ wiped b.run.keys.changes
  pub fetched : a.run.keys.fetched ≡ wiped b.run.keys.fetched
  pub readable : a.run.keys.may_read ≡ wiped b.run.keys.may_read
  pub writable : a.run.keys.may_write ≡ wiped b.run.keys.may_write
  pub paid : a.run.keys.paid ≡ wiped b.run.keys.paid
  pub log : a.run.log ≡ wiped b.run.log
  pub starts : Marks (wiped b.starts) (starts_of code) a.starts
