-- What settle prints of an effect (document 01, Effect log), without the line's end.
use Rattle.std.specs.Prelude.{List, [], ◌++◌, ℕ, ◌+◌, ◌*◌, ◌/◌, eqb, leb, length}
use Rattle.words.specs.Bytes.{be_bytes}
use Rattle.words.specs.Choice.{pick}
use Rattle.text.specs.Decimal.{field_of}
use Rattle.effects.specs.Log.{Effect}
use Rattle.text.specs.Ascii.{ascii}
use Rattle.text.specs.Hex.{hex_of}

-- "transfer 5 to 0a0b": amount, target
unfoldable pub transfer_line : (amount : ℕ) (target : List ℕ) → List ℕ
transfer_line amount target = (field_of (ascii "transfer ") amount ++ ascii " to ") ++ hex_of target

-- the first four bytes of an event's word
unfoldable pub selector_of : ℕ → List ℕ
selector_of word = be_bytes 4 (word / 4294967296)

-- "event 52454144 length 2 data 0a0b": selector, number of bytes, bytes
unfoldable pub event_line : (word : ℕ) (bytes : List ℕ) → List ℕ
event_line word bytes =
    (((ascii "event " ++ hex_of (selector_of word)) ++ field_of (ascii " length ") (length bytes)) ++ ascii " data ") ++ hex_of bytes

unfoldable pub effect_line : Effect → List ℕ
effect_line e = pick (eqb e.kind 0) (transfer_line e.word e.bytes) (event_line e.word e.bytes)

-- an output of n bytes takes the line if it has room for the bytes' digits and 80 more
unfoldable pub line_within : ℕ → Effect → List ℕ
line_within n e = pick (leb (length e.bytes * 2 + 80) n) (effect_line e) []
