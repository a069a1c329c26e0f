-- What the writer's code finds in the list of entries. Assumes nothing.
use Rattle.std.specs.Prelude.{◌≡◌, refl, Bool, true, false, List, [], ◌∷◌, ◌++◌, ℕ, zero, suc, ◌+◌, ◌-◌, ◌^◌, ◌≤◌, ◌<◌, ltb, leb, eqb, length, take, drop, Option, Some, None, is_some}
use Rattle.std.proofs.Common.{sym, ap, ◌∙◌, arith, get_or-take, length-take-le, ltb-true, leb-true, le-ltb, lt-ltb, le-leb, ne_eqb}
use Rattle.std.proofs.Math.Nat.{sub-zero}
use Rattle.std.proofs.lemmas.Bool.{lt-leb}
use Rattle.std.proofs.lemmas.List.Folds.{list_all_at}
use Rattle.words.specs.Choice.{pick, both}
use Rattle.container.specs.Container.{Entry}
use Rattle.container.specs.Canonical.{entry_bytes, entries_bytes}
use Rattle.words.specs.Lists.{nth}
use Rattle.words.specs.BytesLaws.{rest}
use Rattle.container_writer.specs.Writer.{all_short, slots_in, begins_entry, entry_in, with_entry, nothing_left, entries_in, listed}
use Rattle.container_writer.specs.WriterParts.{BeginsEntry, or_empty}

both_left : (a b : Bool) → both a b ≡ true → a ≡ true
both_left true b e = refl
both_left false b e = e

both_right : (a b : Bool) → both a b ≡ true → b ≡ true
both_right true b e = e
both_right false b e = let z : ◌≡◌ {A = ℕ} 0 1 = cc in absurd (omega arith)

short_at : (xs : List ℕ) (k : ℕ) → all_short xs ≡ true → k < length xs → nth xs k < 2 ^ 32
unfolding all_short
short_at xs k e h = by (ltb (nth xs k) (2 ^ 32)) refl
  where
    by : (t : Bool) → ltb (nth xs k) (2 ^ 32) ≡ t → nth xs k < 2 ^ 32
    by true q = ltb-true (nth xs k) (2 ^ 32) q
    by false q =
        let z : true ≡ false = sym e ∙ list_all_at (λ x. ltb x (2 ^ 32)) xs k 0 h q in
        let w : ◌≡◌ {A = ℕ} 0 1 = cc in absurd (omega arith)

pub six_short : (xs : List ℕ) (k : ℕ) → 6 ≤ length xs → all_short (take 6 xs) ≡ true → k < 6 → nth xs k < 2 ^ 32
six_short xs k h e l = rw (get_or-take 6 xs k 0 l) at (short_at (take 6 xs) k e (rw (length-take-le 6 xs h) l))

-- an entry that a list begins with
pub begins : (xs : List ℕ) → begins_entry xs ≡ true → BeginsEntry xs
unfolding begins_entry
begins xs e =
    let s = all_short (take 6 xs) in
    let w = leb (6 + slots_in xs) (length xs) in
    let r : both s w ≡ true = both_right (leb 6 (length xs)) (both s w) e in
    record {
      six = leb-true 6 (length xs) (both_left (leb 6 (length xs)) (both s w) e);
      short = both_left s w r;
      whole = leb-true (6 + slots_in xs) (length xs) (both_right s w r);
    }

-- whether a list begins with an entry, from what the code tests
pub begins_few : (xs : List ℕ) → length xs < 6 → false ≡ begins_entry xs
unfolding begins_entry
begins_few xs h = rw (lt-leb 6 (length xs) h)

pub begins_long : (xs : List ℕ) → 6 ≤ length xs → all_short (take 6 xs) ≡ false → false ≡ begins_entry xs
unfolding begins_entry
begins_long xs h e = rw (le-leb 6 (length xs) h, e)

pub begins_by : (xs : List ℕ) (n : ℕ) → 6 ≤ length xs → all_short (take 6 xs) ≡ true → n ≡ slots_in xs → leb (6 + n) (length xs) ≡ begins_entry xs
unfolding begins_entry
begins_by xs n h e k = rw (le-leb 6 (length xs) h, e, k)

pub slots_below : (xs : List ℕ) → 6 ≤ length xs → all_short (take 6 xs) ≡ true → slots_in xs < 2 ^ 34
unfolding slots_in
slots_below xs h e =
    let s : (k : ℕ) → k < 6 → nth xs k < 2 ^ 32 = λ k l. six_short xs k h e l in
    omega (arith, s 2 (omega arith), s 3 (omega arith), s 4 (omega arith), s 5 (omega arith))

pub ruleset begins_laws = (begins_few, begins_long, begins_by, slots_below)

-- the rest of a list after the entry that it begins with
abbrev pub after_entry : List ℕ → List ℕ
after_entry xs = drop (6 + slots_in xs) xs

entries_turn : (n : ℕ) (xs : List ℕ) → 0 < n → entries_in n xs ≡ pick (begins_entry xs) (with_entry (entry_in xs) (entries_in (n - 1) (after_entry xs))) None
unfolding entries_in
entries_turn zero xs h = absurd (omega arith)
entries_turn (suc n) xs h = let e : suc n - 1 ≡ n = omega arith in rw e

is_with : (e : Entry) (o : Option (List Entry)) → is_some (with_entry e o) ≡ is_some o
unfolding with_entry
is_with e None = refl
is_with e (Some es) = refl

or_with : (e : Entry) (o : Option (List Entry)) → is_some o ≡ true → or_empty (with_entry e o) ≡ e ∷ or_empty o
unfolding with_entry
or_with e None h = let z : ◌≡◌ {A = ℕ} 0 1 = cc in absurd (omega arith)
or_with e (Some es) h = refl

-- what is left of the list decides
pub is_turn : (n : ℕ) (xs : List ℕ) → 0 < n → begins_entry xs ≡ true → is_some (entries_in n xs) ≡ is_some (entries_in (n - 1) (after_entry xs))
is_turn n xs h b = rw (entries_turn n xs h, b) (is_with (entry_in xs) (entries_in (n - 1) (after_entry xs)))

pub is_none_lem : (n : ℕ) (xs : List ℕ) → 0 < n → begins_entry xs ≡ false → is_some (entries_in n xs) ≡ false
is_none_lem n xs h b = rw (entries_turn n xs h, b)

pub is_end : (n : ℕ) (xs : List ℕ) → n ≡ 0 → is_some (entries_in n xs) ≡ eqb 0 (length xs)
unfolding entries_in nothing_left
is_end zero [] h = refl
is_end zero (x ∷ xs) h = sym (ne_eqb 0 (suc (length xs)) (λ e. omega arith))
is_end (suc n) xs h = absurd (omega arith)

-- what an entry that a list begins with has of the list
module _ (xs : List ℕ) (b : begins_entry xs ≡ true) where
  pub begins_six : 6 ≤ length xs
  begins_six = (begins xs b).six

  pub begins_short : all_short (take 6 xs) ≡ true
  begins_short = (begins xs b).short

  pub begins_whole : 6 + slots_in xs ≤ length xs
  begins_whole = (begins xs b).whole

  pub begins_below : slots_in xs < 2 ^ 34
  begins_below = slots_below xs begins_six begins_short

-- what a loop over n entries finds after i
module _ (n i : ℕ) (xs : List ℕ) where
  pub list_turn : i < n → begins_entry xs ≡ true → (k : ℕ) → k ≡ slots_in xs → is_some (entries_in (n - i) xs) ≡
      is_some (entries_in (n - (i + 1)) (take (length xs - (6 + k)) (drop (6 + k) xs)))
  list_turn h b k e =
      let m : n - i - 1 ≡ n - (i + 1) = omega arith in
      rw (rest (6 + k) xs, e, ← m) (is_turn (n - i) xs (omega arith) b)

  pub list_none : i < n → begins_entry xs ≡ false → false ≡ is_some (entries_in (n - i) xs)
  list_none h b = sym (is_none_lem (n - i) xs (omega arith) b)

  pub list_end : n ≤ i → eqb 0 (length xs) ≡ is_some (entries_in (n - i) xs)
  list_end h = sym (is_end (n - i) xs (omega arith))

-- a list of n entries, one at least
pub record More (n : ℕ) (xs : List ℕ) : Type 0 where
  pub begin : begins_entry xs ≡ true
  pub next : is_some (entries_in (n - 1) (after_entry xs)) ≡ true
  pub are : or_empty (entries_in n xs) ≡ entry_in xs ∷ or_empty (entries_in (n - 1) (after_entry xs))

pub more : (n : ℕ) (xs : List ℕ) → 0 < n → is_some (entries_in n xs) ≡ true → More n xs
more n xs h s = by (begins_entry xs) refl
  where
    by : (t : Bool) → begins_entry xs ≡ t → More n xs
    by true b =
        let next : is_some (entries_in (n - 1) (after_entry xs)) ≡ true = sym (is_turn n xs h b) ∙ s in
        record {
          begin = b;
          next = next;
          are = rw (entries_turn n xs h, b) (or_with (entry_in xs) (entries_in (n - 1) (after_entry xs)) next);
        }
    by false b = let z : true ≡ false = sym s ∙ is_none_lem n xs h b in let w : ◌≡◌ {A = ℕ} 0 1 = cc in absurd (omega arith)

pub none_left : (n : ℕ) (xs : List ℕ) → n ≡ 0 → or_empty (entries_in n xs) ≡ []
unfolding entries_in nothing_left
none_left zero [] h = refl
none_left zero (x ∷ xs) h = refl
none_left (suc n) xs h = absurd (omega arith)

-- the bytes of n entries of a list
abbrev pub laid_bytes : ℕ → List ℕ → List ℕ
laid_bytes n xs = entries_bytes (or_empty (entries_in n xs))

bytes_turn : (n : ℕ) (xs : List ℕ) → More n xs → laid_bytes n xs ≡ entry_bytes (entry_in xs) ++ laid_bytes (n - 1) (after_entry xs)
unfolding entries_bytes
bytes_turn n xs m = ap entries_bytes m.are

bytes_end : (n : ℕ) (xs : List ℕ) → n ≡ 0 → laid_bytes n xs ≡ []
unfolding entries_bytes
bytes_end n xs h = ap entries_bytes (none_left n xs h)

-- what a loop over n entries of a list that is one has before it after i
module _ (n i : ℕ) (xs : List ℕ) where
  pub more_at : i < n → is_some (entries_in (n - i) xs) ≡ true → begins_entry xs ≡ true
  more_at h s = (more (n - i) xs (omega arith) s).begin

  pub more_next : i < n → is_some (entries_in (n - i) xs) ≡ true → (k : ℕ) → k ≡ slots_in xs →
      is_some (entries_in (n - (i + 1)) (take (length xs - (6 + k)) (drop (6 + k) xs))) ≡ true
  more_next h s k e =
      let m : n - i - 1 ≡ n - (i + 1) = omega arith in
      rw (rest (6 + k) xs, e, ← m) (more (n - i) xs (omega arith) s).next

  pub bytes_at : i < n → is_some (entries_in (n - i) xs) ≡ true → (k : ℕ) → k ≡ slots_in xs →
      laid_bytes (n - i) xs ≡ entry_bytes (entry_in xs) ++ laid_bytes (n - (i + 1)) (take (length xs - (6 + k)) (drop (6 + k) xs))
  bytes_at h s k e =
      let m : n - i - 1 ≡ n - (i + 1) = omega arith in
      rw (rest (6 + k) xs, e, ← m) (bytes_turn (n - i) xs (more (n - i) xs (omega arith) s))

  pub bytes_after : n ≤ i → laid_bytes (n - i) xs ≡ []
  bytes_after h = bytes_end (n - i) xs (omega arith)

-- the number that a list begins with says how many entries follow
pub listed_empty : (xs : List ℕ) → length xs ≡ 0 → is_some (listed xs) ≡ false
unfolding listed
listed_empty [] h = refl
listed_empty (x ∷ xs) h = absurd (omega arith)

pub listed_large : (xs : List ℕ) → 2 ^ 32 ≤ nth xs 0 → is_some (listed xs) ≡ false
unfolding listed
listed_large [] h = refl
listed_large (x ∷ xs) h = rw (le-ltb x (2 ^ 32) h)

pub listed_is : (xs : List ℕ) → 0 < length xs → nth xs 0 < 2 ^ 32 → listed xs ≡ entries_in (nth xs 0) (drop 1 xs)
unfolding listed
listed_is [] h l = absurd (omega arith)
listed_is (x ∷ xs) h l = rw (lt-ltb x (2 ^ 32) l)

pub listed_small : (xs rest : List ℕ) (n : ℕ) → xs ≡ n ∷ rest → n < 2 ^ 32 → is_some (listed xs) ≡ is_some (entries_in (n - 0) rest)
unfolding listed
listed_small xs rest n e h = rw (e, sub-zero, lt-ltb n (2 ^ 32) h)

pub ruleset list_laws = (begins_six, begins_short, begins_whole, begins_below, list_turn, list_none, list_end, listed_empty, listed_large, listed_small)

pub record ListStands (xs : List ℕ) : Type 0 where
  pub stands : 0 < length xs
  pub small : nth xs 0 < 2 ^ 32
  pub is : listed xs ≡ entries_in (nth xs 0) (drop 1 xs)

pub listed_so : (xs : List ℕ) → is_some (listed xs) ≡ true → ListStands xs
unfolding listed
listed_so [] s = let z : ◌≡◌ {A = ℕ} 0 1 = cc in absurd (omega arith)
listed_so (x ∷ xs) s = by (ltb x (2 ^ 32)) refl
  where
    by : (t : Bool) → ltb x (2 ^ 32) ≡ t → ListStands (x ∷ xs)
    by true e = let l : x < 2 ^ 32 = ltb-true x (2 ^ 32) e in record { stands = omega arith; small = l; is = listed_is (x ∷ xs) (omega arith) l }
    by false e = let z : true ≡ false = sym s ∙ rw e in let w : ◌≡◌ {A = ℕ} 0 1 = cc in absurd (omega arith)
