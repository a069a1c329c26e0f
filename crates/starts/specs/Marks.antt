-- Places marked in a map of bits.
use Rattle.std.specs.Prelude.{◌≡◌, Bool, List, ℕ, ◌*◌, ◌/◌, ◌%◌, ◌^◌, ◌<◌, eqb, length, get_or, set}
use Rattle.std.specs.Int.Bits.{bit_or}
use Rattle.words.specs.Choice.{either}
use Rattle.words.specs.Lists.{member}

-- bit p of a map of bits: place p is marked
unfoldable pub marked : List ℕ → ℕ → Bool
marked map p = eqb (get_or map (p / 8) 0 / 2 ^ (p % 8) % 2) 1

-- a place marked: bit p % 8 of byte p / 8 is set
unfoldable pub mark_in : List ℕ → ℕ → List ℕ
mark_in map p = set map (p / 8) (bit_or (get_or map (p / 8) 0) (2 ^ (p % 8)))

-- a map after some places were marked in it, those past it left out
pub record Marks (before places after : List ℕ) : Type 0 where
  pub size : length after ≡ length before
  pub at : (p : ℕ) → p < 8 * length before → marked after p ≡ either (member p places) (marked before p)

-- a map whose marked places are these
pub record Holds (map starts : List ℕ) : Type 0 where
  pub at : (p : ℕ) → marked map p ≡ member p starts
