-- The C functions that lend buffers beside their answer, over the definitions of what they call.
use Rattle.std.specs.Prelude.{Bool, not, List, ℕ, eqb, Option}
use Rattle.container.specs.Container.{Container}
use Rattle.container_writer.specs.Writer as writer
use Rattle.tables.specs.Rows.{Row}
use Rattle.changes.specs.ChangeList as changes
use Rattle.opening.specs.Opening.{Input, Lent}
use Rattle.interp.specs.Call.{call_of}
use Rattle.machine.specs.declared.host.Host.{Host}
use Rattle.gateway.specs.Boundary.{Told, told_of}
use Rattle.gateway.specs.Words.{answer_words, written_words, list_words}

-- a loader is there where the number is not 0
abbrev pub is_present : ℕ → Bool
is_present n = not (eqb n 0)

-- the host's numbers
abbrev pub host_as : (genesis ml slh : ℕ) → Host
host_as g ml slh = record { genesis = g; ml_signed = ml; slh_signed = slh }

-- a call: its buffers and its answer's words
unfoldable pub gateway_of : Input → Lent → (answer : List ℕ) → Told Lent
gateway_of x b l = told_of b (call_of x b).lent (answer_words (call_of x b).answer) l

-- the writer: its output and its answer's words
unfoldable pub writer_of : Option Container → (out answer : List ℕ) → Told (List ℕ)
writer_of c out l = told_of out (writer.writer_output c out) (written_words (writer.written_of c out)) l

-- the change list: its output and its answer's words
unfoldable pub changes_of : Option (List Row) → (out answer : List ℕ) → Told (List ℕ)
changes_of rs out l = told_of out (changes.list_output rs out) (list_words (changes.answer_of rs out)) l
