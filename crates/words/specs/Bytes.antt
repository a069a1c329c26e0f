-- Numbers as bytes, the highest first (document 01, Codec: numbers everywhere are big-endian).
use Rattle.std.specs.Prelude.{List, [], ◌∷◌, ◌++◌, ℕ, zero, suc, ◌+◌, ◌*◌, ◌/◌, ◌%◌, ◌<◌, length, get_or, take, drop}

-- the number that bytes write after those of a number
unfoldable pub num_from : ℕ → List ℕ → ℕ
num_from acc [] = acc
num_from acc (x ∷ xs) = num_from (acc * 256 + x) xs

-- the number that bytes write
unfoldable pub num : List ℕ → ℕ
unfolding num_from
num xs = num_from 0 xs

-- the low w bytes of a number
unfoldable pub be_bytes : ℕ → ℕ → List ℕ
be_bytes zero v = []
be_bytes (suc w) v = be_bytes w (v / 256) ++ (v % 256 ∷ [])

-- every element is a byte
abbrev pub Bytes : List ℕ → Type 0
Bytes s = (k : ℕ) → get_or s k 0 < 256

-- the first n words of bytes, eight bytes each
unfoldable pub words_of : ℕ → List ℕ → List ℕ
words_of zero s = []
words_of (suc n) s = num (take 8 s) ∷ words_of n (drop 8 s)

-- the whole words in bytes
abbrev pub words_in : List ℕ → List ℕ
words_in s = words_of (length s / 8) s
