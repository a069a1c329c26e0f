-- Writing a container from code, constants and one list of numbers: the number of entries, then for each entry its selector, its offset,
-- four counts and its slots. 49 for a list that is none, then 48 for an output that is too short (document 01, Container).
use Rattle.std.specs.Prelude.{Bool, List, [], ◌∷◌, ◌++◌, ℕ, zero, suc, ◌+◌, ◌^◌, ltb, leb, length, take, drop, Option, Some, None, Result, Ok, Err}
use Rattle.std.specs.List.{list_all}
use Rattle.std.specs.Option.{option_map}
use Rattle.words.specs.Choice.{pick, both}
use Rattle.words.specs.Lists.{nth}
use Rattle.container.specs.Container.{Entry, Container}
use Rattle.container.specs.Canonical.{canonical}
use Rattle.container_writer.specs.declared.writer.WriteError.{WriteError}

-- every number is below 2^32
unfoldable pub all_short : List ℕ → Bool
all_short xs = list_all (λ x. ltb x (2 ^ 32)) xs

-- how many slots the entry declares that a list begins with
unfoldable pub slots_in : List ℕ → ℕ
slots_in xs = nth xs 2 + nth xs 3 + nth xs 4 + nth xs 5

-- whether a list begins with an entry: six numbers within four bytes, and the slots
unfoldable pub begins_entry : List ℕ → Bool
begins_entry xs = both (leb 6 (length xs)) (both (all_short (take 6 xs)) (leb (6 + slots_in xs) (length xs)))

unfoldable pub entry_in : List ℕ → Entry
entry_in xs = record {
  selector = nth xs 0;
  offset = nth xs 1;
  reads = take (nth xs 2) (drop 6 xs);
  writes = take (nth xs 3) (drop (6 + nth xs 2) xs);
  keyed_reads = take (nth xs 4) (drop (6 + nth xs 2 + nth xs 3) xs);
  keyed_writes = take (nth xs 5) (drop (6 + nth xs 2 + nth xs 3 + nth xs 4) xs);
}

unfoldable pub with_entry : Entry → Option (List Entry) → Option (List Entry)
with_entry e o = option_map (λ es. e ∷ es) o

unfoldable pub nothing_left : List ℕ → Option (List Entry)
nothing_left [] = Some []
nothing_left (x ∷ xs) = None

-- n entries, and nothing after them
unfoldable pub entries_in : ℕ → List ℕ → Option (List Entry)
entries_in zero xs = nothing_left xs
entries_in (suc n) xs = pick (begins_entry xs) (with_entry (entry_in xs) (entries_in n (drop (6 + slots_in xs) xs))) None

-- the entries that a list says
unfoldable pub listed : List ℕ → Option (List Entry)
listed [] = None
listed (n ∷ xs) = pick (ltb n (2 ^ 32)) (entries_in n xs) None

unfoldable pub with_code : (code consts : List ℕ) → Option (List Entry) → Option Container
with_code code consts o = option_map (λ es. record { code = code; consts = consts; entries = es }) o

-- the container to write, where every count is within four bytes
unfoldable pub to_write : (code consts list : List ℕ) → Option Container
to_write code consts list = pick (both (ltb (length code) (2 ^ 32)) (ltb (length consts) (2 ^ 32))) (with_code code consts (listed list)) None

unfoldable pub written_of : Option Container → (out : List ℕ) → Result ℕ WriteError
written_of None out = Err WriteError.BadList
written_of (Some c) out = pick (leb (length (canonical c)) (length out)) (Ok (length (canonical c))) (Err WriteError.NoRoom)

-- what is left in the output: the canonical bytes and what stood after them, or all as it was
unfoldable pub writer_output_by : Result ℕ WriteError → Option Container → (out : List ℕ) → List ℕ
writer_output_by (Ok n) (Some c) out = canonical c ++ drop n out
writer_output_by (Ok n) None out = out
writer_output_by (Err e) c out = out

unfoldable pub writer_output : Option Container → (out : List ℕ) → List ℕ
writer_output c out = writer_output_by (written_of c out) c out
