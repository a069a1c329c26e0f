-- What a record appended to a log leaves, and document 01's number of the answer.
use Rattle.std.specs.Prelude.{◌≡◌, List, ◌++◌, ℕ, ◌+◌, length, take, drop, leb, Option, Some, None}
use Rattle.words.specs.Choice.{pick}
use Rattle.effects.specs.Log.{Effect, record_of}

-- the log's new end, if the record fits
unfoldable pub grown_of : Effect → ℕ → List ℕ → Option ℕ
grown_of e end t = pick (leb (end + length e.bytes + 13) (length t)) (Some (end + length e.bytes + 13)) None

-- what t becomes: its first bytes, the record, and the rest as it was; or t itself
abbrev pub Grew : Option ℕ → Effect → ℕ → List ℕ → List ℕ → Type 0
Grew (Some m) e end t u = (take m u ≡ take end t ++ record_of e) × (drop m u ≡ drop m t)
Grew None e end t u = u ≡ t

-- u is t after the record of e was put at `end`, if it fits, and r says so
pub record Appended (e : Effect) (end : ℕ) (t u : List ℕ) (r : Option ℕ) : Type 0 where
  pub answer : r ≡ grown_of e end t
  pub bytes : Grew r e end t u

-- 48 NoRoom, 0 when done
unfoldable pub grown_number : Option ℕ → ℕ
grown_number (Some n) = 0
grown_number None = 48
