-- Memory: what lies inside, and what loads and stores do (document 01, Numbers returned: 6; numbers are big-endian).
use Rattle.std.specs.Prelude.{◌≡◌, ℕ, ◌+◌, Bool, true, List, length, take, drop, nat_le, Option, Some, None}
use Rattle.std.proofs.Math.Seq.{paste}
use Rattle.words.specs.Bytes.{num, be_bytes}
use Rattle.words.specs.Choice.{pick}

-- whether len bytes from offset lie within size bytes
abbrev pub inside : (size offset len : ℕ) → Bool
inside size offset len = nat_le (offset + len) size

-- where a region starts and ends
abbrev pub region_of : (size offset len : ℕ) → Option (ℕ × ℕ)
region_of size offset len = pick (inside size offset len) (Some (offset, offset + len)) None

-- a part is inside, from its offset on
pub record PartFound (size offset len start end : ℕ) : Type 0 where
  pub within : inside size offset len ≡ true
  pub begin : start ≡ offset
  pub stop : end ≡ offset + len

-- the word of the eight bytes at a place
abbrev pub load_of : List ℕ → ℕ → Option ℕ
load_of mem offset = pick (inside (length mem) offset 8) (Some (num (take 8 (drop offset mem)))) None

-- memory after a word is stored, and after bytes are written, at a place; the same where they do not lie inside
unfoldable pub stored_at : List ℕ → (offset v : ℕ) → List ℕ
stored_at mem offset v = pick (inside (length mem) offset 8) (paste mem offset (be_bytes 8 v) 8) mem

unfoldable pub written_at : List ℕ → ℕ → List ℕ → List ℕ
written_at mem offset bytes = pick (inside (length mem) offset (length bytes)) (paste mem offset bytes (length bytes)) mem
