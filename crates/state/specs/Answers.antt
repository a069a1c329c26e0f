-- Document 01's number for each case of the answers of memory and stack (Numbers returned); a register operation's is its fault's (Faults).
use Rattle.std.specs.Prelude.{ℕ, Bool, Option, Some, None}
use Rattle.words.specs.Choice.{pick}

abbrev pub region_number : Option (ℕ × ℕ) → ℕ
region_number (Some (start, end)) = 0
region_number None = 6

abbrev pub load_number : Option ℕ → ℕ
load_number (Some v) = 0
load_number None = 6

-- of a store or a write, by whether it was inside
abbrev pub store_number : Bool → ℕ
store_number inside = pick inside 0 6

abbrev pub push_number : Option ℕ → ℕ
push_number (Some depth) = 0
push_number None = 4

abbrev pub pop_number : Option ℕ → ℕ
pop_number (Some v) = 0
pop_number None = 5
