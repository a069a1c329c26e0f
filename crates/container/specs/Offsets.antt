-- entry_offset: the offset of the first entry with a selector, or 9; bytes are read first (document 01, Container).
use Rattle.std.specs.Prelude.{List, [], ◌∷◌, ℕ, eqb, Result, Ok, Err}
use Rattle.words.specs.Choice.{pick}
use Rattle.container.specs.Container.{Entry}
use Rattle.container.specs.Reader.{Read, done, refused}
use Rattle.container.specs.declared.offsets.OffsetError.{OffsetError}

unfoldable pub offset_in : ℕ → List Entry → Result ℕ OffsetError
offset_in s [] = Err OffsetError.UnknownSelector
offset_in s (e ∷ es) = pick (eqb e.selector s) (Ok e.offset) (offset_in s es)

unfoldable pub offset_of : ℕ → Read → Result ℕ OffsetError
offset_of s (refused e) = Err (OffsetError.Unreadable e)
offset_of s (done c) = offset_in s c.entries
