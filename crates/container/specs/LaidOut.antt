-- A container that stands in bytes.
use Rattle.std.specs.Prelude.{◌≡◌, List, [], ℕ, drop}
use Rattle.container.specs.Container.{Container}
use Rattle.container.specs.Reader.{read, entries, layout_of}
use Rattle.container.specs.declared.reader.Layout.{Layout}

-- a container's code and layout, and its entries in the bytes
pub record LaidOut (s bytes : List ℕ) (l : Layout) (c : Container) : Type 0 where
  pub code : bytes ≡ c.code
  pub layout : l ≡ layout_of c
  pub entries : entries l.entries (drop l.entries_at s) ≡ read c.entries []
