-- Bytes laid down piece after piece. Assumes nothing.
use Rattle.std.specs.Prelude.{◌≡◌, refl, List, [], ◌∷◌, ◌++◌, ℕ, ◌+◌, ◌*◌, ◌≤◌, ◌<◌, length, drop, get_or}
use Rattle.std.proofs.Common.{ap, ◌∙◌, arith, add-one, length-append, drop_of_length-le, drop-cons}
use Rattle.std.proofs.Math.Seq.{paste-zero}
use Rattle.std.proofs.lemmas.List.Edits.{length-paste}
use Rattle.words.specs.Bytes.{be_bytes}
use Rattle.words.specs.BytesLaws.{length_be_bytes}
use Rattle.container.specs.Canonical.{word_bytes}
use Rattle.words.specs.Laid.{Laid}
use Rattle.words.specs.LaidLaws.{laid_then}

-- what is left to lay down at a place, and that with it all will be laid down
pub record LaidRest (d : List ℕ) (at : ℕ) (all u : List ℕ) (m : ℕ) (rest : List ℕ) : Type 0 where
  pub room : m + length rest ≤ length u
  pub then : (v : List ℕ) (n : ℕ) → Laid u m rest v n → Laid d at all v n
  pub same : length u ≡ length d

pub rest_start : {d all : List ℕ} {at : ℕ} → at + length all ≤ length d → LaidRest d at all d at all
rest_start h = record { room = h; then = λ v n l. l; same = refl }

pub rest_as : {d all u x y : List ℕ} {at m : ℕ} → x ≡ y → LaidRest d at all u m x → LaidRest d at all u m y
rest_as e r = rw e at r

pub rest_turn : {d all u v b rest : List ℕ} {at m n : ℕ} → LaidRest d at all u m (b ++ rest) → Laid u m b v n → LaidRest d at all v n rest
rest_turn {u = u} {v = v} {b = b} {rest = rest} {m = m} {n = n} r l =
    let k = length-append b rest in
    let s : length v ≡ length u = ap length l.is ∙ length-paste u m b (length b) (omega (arith, r.room, k)) (omega arith) in
    record {
      room = rw (l.end, s) (omega (arith, r.room, k));
      then = λ w e q. r.then w e (laid_then u b rest v w m n e (omega (arith, r.room, k)) l q);
      same = s ∙ r.same;
    }

pub rest_end : {d all u : List ℕ} {at m : ℕ} → LaidRest d at all u m [] → Laid d at all u m
rest_end {u = u} {m = m} r = r.then u m (record { end = omega arith; is = paste-zero u m [] })

-- words one after the other
pub word_bytes_turn : (xs : List ℕ) (i : ℕ) → i < length xs → word_bytes (drop i xs) ≡ be_bytes 8 (get_or xs i 0) ++ word_bytes (drop (i + 1) xs)
unfolding word_bytes
word_bytes_turn xs i h = rw (add-one, drop-cons xs i 0)

pub word_bytes_end : (xs : List ℕ) (i : ℕ) → length xs ≤ i → word_bytes (drop i xs) ≡ []
unfolding word_bytes
word_bytes_end xs i h = rw (drop_of_length-le xs h)

pub length_word_bytes : (xs : List ℕ) → length (word_bytes xs) ≡ length xs * 8
unfolding word_bytes
length_word_bytes [] = refl
length_word_bytes (x ∷ xs) = omega (arith, length-append (be_bytes 8 x) (word_bytes xs), length_be_bytes 8 x, length_word_bytes xs)

-- what the next piece needs has room
pub piece_room : {d all u : List ℕ} {at m : ℕ} (b rest : List ℕ) → LaidRest d at all u m (b ++ rest) → m + length b ≤ length u
piece_room b rest r = omega (arith, r.room, length-append b rest)

pub number_room : {d all u : List ℕ} {at m : ℕ} (w v : ℕ) (rest : List ℕ) → LaidRest d at all u m (be_bytes w v ++ rest) → m + w ≤ length u
number_room w v rest r = omega (arith, piece_room (be_bytes w v) rest r, length_be_bytes w v)
