-- What is read at a place of the code, and the place of the next read (document 01, What changes shape here: the Cursor of isa.rs).
use Rattle.std.specs.Prelude.{ℕ, ◌+◌, List, ltb, length, get_or, Result, Ok, Err}
use Rattle.words.specs.Choice.{pick}
use Rattle.isa.specs.declared.codec.DecodeError.TheVariants.{BadRegister, Truncated}
use Rattle.isa.specs.declared.codec.ReadAt.{ReadAt}
use Rattle.isa.specs.declared.codec.DecodeError.{DecodeError}

abbrev pub reads : Result ℕ DecodeError → ℕ → ReadAt
reads g n = record { got = g; at = n }

-- a byte, and the place after it; at or past the end Truncated, and the place stays
abbrev pub byte_read : List ℕ → ℕ → ReadAt
byte_read code at = pick (ltb at (length code)) (reads (Ok (get_or code at 0)) (at + 1)) (reads (Err Truncated) at)

-- a byte that must be a register
abbrev pub as_reg : Result ℕ DecodeError → Result ℕ DecodeError
as_reg (Ok b) = pick (ltb b 16) (Ok b) (Err (BadRegister b))
as_reg (Err e) = Err e

-- a byte read as a register; one that is none has been read all the same
abbrev pub reg_read : List ℕ → ℕ → ReadAt
reg_read code at = reads (as_reg (byte_read code at).got) (byte_read code at).at
