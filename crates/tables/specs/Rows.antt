-- Rows of a key and a value, in bytes and sorted by key (document 01, Lent input: rows are key 32, value 8; a set is rows of 32).
use Rattle.std.specs.Prelude.{List, [], ◌∷◌, ◌++◌, ℕ, zero, suc, ◌-◌, ◌≤◌, take, drop, Option, Some, None, Result, Ok, Err}
use Rattle.words.specs.Bytes.{num, be_bytes}
use Rattle.std.specs.Ordering.{nat_cmp}
use Rattle.tables.specs.Order.{by_order}

-- a row: a key and the value that stands at it
pub record Row : Type 0 where
  pub key : ℕ
  pub value : ℕ

-- the row that bytes begin with, where a row is w bytes
unfoldable pub row_in : ℕ → List ℕ → Row
row_in w t = record { key = num (take 32 t); value = num (take (w - 32) (drop 32 t)) }

-- the first n rows of bytes
unfoldable pub rows : ℕ → ℕ → List ℕ → List Row
rows w zero t = []
rows w (suc n) t = row_in w t ∷ rows w n (drop w t)

-- the bytes of rows
unfoldable pub bytes_of : ℕ → List Row → List ℕ
bytes_of w [] = []
bytes_of w (r ∷ rs) = be_bytes 32 r.key ++ (be_bytes (w - 32) r.value ++ bytes_of w rs)

-- keys strictly rising, the first at least lo
abbrev pub Rising : ℕ → List Row → Type 0
Rising lo [] = Unit {0}
Rising lo (r ∷ rs) = (lo ≤ r.key) × Rising (suc r.key) rs

-- a place, one row further on
unfoldable pub onward : Result ℕ ℕ → Result ℕ ℕ
onward (Ok i) = Ok (suc i)
onward (Err i) = Err (suc i)

-- where a key stands in rising rows, or would stand
unfoldable pub find : ℕ → List Row → Result ℕ ℕ
find k [] = Err 0
find k (r ∷ rs) = by_order (nat_cmp r.key k) (onward (find k rs)) (Ok 0) (Err 0)

-- rising rows with x put at its key
unfoldable pub insert : Row → List Row → List Row
insert x [] = x ∷ []
insert x (r ∷ rs) = by_order (nat_cmp r.key x.key) (r ∷ insert x rs) (x ∷ rs) (x ∷ r ∷ rs)

-- the value at a key in rising rows
unfoldable pub lookup : ℕ → List Row → Option ℕ
lookup k [] = None
lookup k (r ∷ rs) = by_order (nat_cmp r.key k) (lookup k rs) (Some r.value) None
