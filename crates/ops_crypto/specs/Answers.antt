-- What a crypto instruction is given of tables, and a turn with what a reply puts.
use Rattle.std.specs.Prelude.{false, List, ℕ, None}
use Rattle.keys.specs.Sound.{Good}
use Rattle.keys.specs.Lent as tables
use Rattle.keys.specs.declared.counts.Counts.{Counts}
use Rattle.machine.specs.declared.run.Run.{Run}
use Rattle.machine.specs.declared.turn.Put.{Put}
use Rattle.machine.specs.declared.turn.Turn.{Turn}

-- the two lists of authorised keys are good beside some other tables: what a plan says of room is known over good tables alone
abbrev pub GoodLists : Counts → (readable writable : List ℕ) → Type 0
GoodLists c readable writable = (changes : List ℕ) × (fetched : List ℕ) × (paid : List ℕ) × Good c (tables.key_bufs changes fetched readable writable paid)

-- a turn that goes on with what is put
abbrev pub goes_with : Run → Put → Turn
goes_with r p = record { run = r; put = p; fault = 0; halted = false }
