-- A log read back from its end, record by record.
use Rattle.std.specs.Prelude.{List, [], ◌∷◌, ℕ, zero, suc, ◌-◌, length, take, drop, get_or}
use Rattle.words.specs.Bytes.{num}
use Rattle.effects.specs.Log.{Effect}

-- how many bytes of data the last record has
unfoldable pub size_of : List ℕ → ℕ
size_of s = num (take 4 (drop (length s - 4) s))

-- where the last record begins
unfoldable pub record_start : List ℕ → ℕ
record_start s = length s - 13 - size_of s

-- the last record's effect
unfoldable pub last_of : List ℕ → Effect
last_of s = record { kind = get_or s (length s - 13) 0; word = num (take 8 (drop (length s - 12) s)); bytes = take (size_of s) (drop (record_start s) s) }

-- at most k effects, from the last record on
unfoldable pub read_back : ℕ → List ℕ → List Effect
read_back zero s = []
read_back (suc k) [] = []
read_back (suc k) (x ∷ s) = last_of (x ∷ s) ∷ read_back k (take (record_start (x ∷ s)) (x ∷ s))

-- the effects of a log
unfoldable pub effects_of : List ℕ → List Effect
effects_of s = read_back (length s) s
