-- Whole rows that pass a test (document 01, numbers 45 and 46: not whole rows, or rows that are not as they must be).
use Rattle.std.specs.Prelude.{Bool, ℕ, ◌/◌, ◌%◌, eqb}
use Rattle.words.specs.Choice.{pick, both}

-- whole rows of w in len, that pass: how many, or bad
abbrev pub whole_of : {A : Type 0} → (ℕ → Bool) → (ℕ → A) → A → ℕ → ℕ → A
whole_of test count bad len w = pick (both (eqb (len % w) 0) (test (len / w))) (count (len / w)) bad
