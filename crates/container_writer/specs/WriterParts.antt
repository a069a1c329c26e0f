-- What the parts of the writer promise each other.
use Rattle.std.specs.Prelude.{◌≡◌, true, List, [], ℕ, ◌+◌, ◌≤◌, length, take, Option, unwrap_or}
use Rattle.container.specs.Container.{Entry, Container}
use Rattle.container_writer.specs.Writer.{all_short, slots_in, listed}

-- a list begins with an entry: six numbers within four bytes, and the slots
pub record BeginsEntry (xs : List ℕ) : Type 0 where
  pub six : 6 ≤ length xs
  pub short : all_short (take 6 xs) ≡ true
  pub whole : 6 + slots_in xs ≤ length xs

-- the entries of a list that is one
abbrev pub or_empty : Option (List Entry) → List Entry
or_empty o = unwrap_or o []

-- the container of code, constants and a list that is one
abbrev pub container_of : (code consts list : List ℕ) → Container
container_of code consts list = record { code = code; consts = consts; entries = or_empty (listed list) }
