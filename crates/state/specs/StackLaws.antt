-- What the theorems of push and pop cite. Assumes nothing.
use Rattle.std.specs.Prelude.{◌≡◌, ℕ, ◌-◌, List, ◌≢◌, slice_index, Some}
use Rattle.std.proofs.Common.{ne_eqb}
use Rattle.state.specs.Stack.{pop_of}

pub pop_some : (words : List ℕ) (depth : ℕ) → (depth ≢ 0) → Some (slice_index words (depth - 1)) ≡ pop_of words depth
pop_some words depth h = rw (ne_eqb depth 0 h)
