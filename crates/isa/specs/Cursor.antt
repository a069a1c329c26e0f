-- What a Cursor reads: what stands at its place of the code that it holds (document 01, What changes shape here).
use Rattle.std.specs.Prelude.{ℕ, ◌≡◌, List, Result}
use Rattle.std.specs.Borrow.{Bor}
use Rattle.isa.specs.declared.codec.ReadAt.{ReadAt}
use Rattle.isa.specs.declared.cursor.Cursor.{Cursor}
use Rattle.isa.specs.declared.cursor.TwoReads.{TwoReads}
use Rattle.isa.specs.Reads.{reads, byte_read, reg_read}
use Rattle.isa.specs.declared.codec.DecodeError.{DecodeError}

-- a Cursor over a slice, at a place
abbrev pub cursor_at : Bor (List ℕ) → ℕ → Cursor
cursor_at code at = record { code = code; at = at }

-- a read takes a Cursor c to a Cursor d and gets g: the code is held on, and g and d's place are the read at c's place
abbrev pub CursorReads : (List ℕ → ℕ → ReadAt) → (c d : Cursor) → Result ℕ DecodeError → Type 0
CursorReads rule c d g = (d.code ≡ c.code) × (reads g d.at ≡ rule c.code.now c.at)

-- a byte at a place, and a register at the place after it
abbrev pub then_reg : List ℕ → ReadAt → TwoReads
then_reg code b = record { byte = b.got; reg = (reg_read code b.at).got; at = (reg_read code b.at).at }

abbrev pub byte_then_reg : List ℕ → ℕ → TwoReads
byte_then_reg code at = then_reg code (byte_read code at)
