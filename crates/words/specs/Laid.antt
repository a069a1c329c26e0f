-- Bytes laid over a list from a place on, and where they end.
use Rattle.std.specs.Prelude.{◌≡◌, List, ℕ, ◌+◌, length}
use Rattle.std.proofs.Math.Seq.{paste}

-- u is d with the bytes laid over it from `at` on; they end at r
pub record Laid (d : List ℕ) (at : ℕ) (bytes u : List ℕ) (r : ℕ) : Type 0 where
  pub end : r ≡ at + length bytes
  pub is : u ≡ paste d at bytes (length bytes)
