-- The stack: words in a list, of which those below the depth are stacked.
use Rattle.std.specs.Prelude.{ℕ, ◌+◌, ◌-◌, List, take, ◌==◌, nat_lt, slice_index, Option, Some, None}
use Rattle.words.specs.Choice.{pick}

-- what is stacked, the last pushed last
abbrev pub stacked : List ℕ → ℕ → List ℕ
stacked words depth = take depth words

-- the depth after a push onto a stack with room for size words
abbrev pub push_of : (size depth : ℕ) → Option ℕ
push_of size depth = pick (nat_lt depth size) (Some (depth + 1)) None

-- the word below the depth
abbrev pub pop_of : List ℕ → ℕ → Option ℕ
pop_of words depth = pick (depth == 0) None (Some (slice_index words (depth - 1)))
