-- What settle prints of a call's answer and of its changes, line by line, without the line's end.
use Rattle.std.specs.Prelude.{List, ◌++◌, ℕ, eqb, take, drop}
use Rattle.words.specs.Bytes.{num}
use Rattle.words.specs.Choice.{pick}
use Rattle.text.specs.Decimal.{field_of}
use Rattle.text.specs.Ascii.{ascii}
use Rattle.text.specs.Hex.{hex_of}
use Rattle.lines.specs.Names.{name_of}

-- an opening that is refused fetches nothing, and every run fetches
unfoldable pub end_word : (fetches : ℕ) → List ℕ
end_word fetches = pick (eqb fetches 0) (ascii "refused ") (ascii "faulted ")

-- "faulted 15 UnknownOpcode 5": number, name, argument
unfoldable pub fault_line : (number argument fetches : ℕ) → List ℕ
fault_line n a fetches = ((field_of (end_word fetches) n ++ ascii " ") ++ name_of n) ++ field_of (ascii " ") a

-- "halted" for 0
unfoldable pub end_line : (number argument fetches : ℕ) → List ℕ
end_line n a fetches = pick (eqb n 0) (ascii "halted") (fault_line n a fetches)

-- "used 812 of 1000"
unfoldable pub used_line : (used limit : ℕ) → List ℕ
used_line used limit = field_of (ascii "used ") used ++ field_of (ascii " of ") limit

-- a row of 40 bytes: its key in hexadecimal, " = " and its value
unfoldable pub change_line : List ℕ → List ℕ
change_line row = hex_of (take 32 row) ++ field_of (ascii " = ") (num (take 8 (drop 32 row)))
