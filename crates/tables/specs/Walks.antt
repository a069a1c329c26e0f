-- What the walks over byte strings and rows know in a turn: what proofs speak of, no rule.
use Rattle.std.specs.Prelude.{◌≡◌, List, ℕ, suc, ◌≤◌, ◌<◌, length, drop, get_or}
use Rattle.words.specs.Bytes.{num, num_from}
use Rattle.tables.specs.Rows.{Row}

-- a and b agree in their first i bytes, whose number is the front
pub record Agree (a b : List ℕ) (i : ℕ) : Type 0 where
  pub front : ℕ
  pub left : num a ≡ num_from front (drop i a)
  pub right : num b ≡ num_from front (drop i b)

-- the key of row i
unfoldable pub key_of_row : List Row → ℕ → ℕ
key_of_row rs i = (get_or rs i (record { key = 0; value = 0 })).key

-- each of the first i keys is below the next
abbrev pub Adjacent : List Row → ℕ → Type 0
Adjacent rs i = (p : ℕ) → suc p < i → key_of_row rs p < key_of_row rs (suc p)

-- all before lo are below k, and all from hi on above
pub record Bracket (rs : List Row) (k n lo hi : ℕ) : Type 0 where
  pub size : length rs ≡ n
  pub lo_le : lo ≤ hi
  pub hi_le : hi ≤ n
  pub under : (p : ℕ) → p < lo → key_of_row rs p < k
  pub over : (p : ℕ) → hi ≤ p → p < n → k < key_of_row rs p
