-- How long a name is. Assumes nothing.
use Rattle.std.specs.Prelude.{◌≡◌, refl, List, [], ◌∷◌, Bool, true, false, ℕ, ◌≤◌, eqb, leb, length}
use Rattle.std.proofs.Common.{arith, leb-true}
use Rattle.words.specs.Choice.{pick, both}
use Rattle.words.specs.ChoiceLaws.{both_left, both_right}
use Rattle.words.specs.Laid.{Laid}
use Rattle.text.specs.Ascii.{ascii}
use Rattle.lines.specs.Names.{Named, name_in, run_names, verify_names, added_names, name_of, later_name, added_name}

-- a text laid is laid under each of its names
pub laid_as : {d a b u : List ℕ} {at r : ℕ} → a ≡ b → Laid d at b u r → Laid d at a u r
laid_as e x = rw e x

-- every listed name takes at most 24 bytes
abbrev all_short : List Named → Bool
all_short [] = true
all_short (x ∷ xs) = both (leb (length (ascii x.name)) 24) (all_short xs)

in_short : (xs : List Named) (n : ℕ) (other : List ℕ) → all_short xs ≡ true → length other ≤ 24 → length (name_in xs n other) ≤ 24
unfolding name_in
in_short [] n other a h = h
in_short (x ∷ xs) n other a h =
    let one : Bool = leb (length (ascii x.name)) 24 in
    let here = leb-true (length (ascii x.name)) 24 (both_left one (all_short xs) a) in
    by (eqb n x.number) here (in_short xs n other (both_right one (all_short xs) a) h)
  where
    by : (t : Bool) → length (ascii x.name) ≤ 24 → length (name_in xs n other) ≤ 24 → length (pick t (ascii x.name) (name_in xs n other)) ≤ 24
    by true p q = p
    by false p q = q

pub length_name : (n : ℕ) → length (name_of n) ≤ 24
unfolding name_of later_name added_name ascii
length_name n =
    let added = in_short added_names n (ascii "Unnamed") refl (omega arith) in
    in_short run_names n (later_name n) refl (in_short verify_names n (added_name n) refl added)
