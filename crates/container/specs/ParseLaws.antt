-- What is read at a place of bytes. Assumes nothing.
use Rattle.std.specs.Prelude.{◌≡◌, List, ℕ, ◌+◌, ◌-◌, ◌*◌, ◌/◌, ◌≤◌, ◌<◌, length, take, drop}
use Rattle.std.proofs.Common.{arith, le-leb}
use Rattle.std.proofs.Math.ListN.{length-drop}
use Rattle.std.proofs.Math.Seq.{drop-drop}
use Rattle.std.proofs.lemmas.Bool.{lt-leb}
use Rattle.words.specs.Bytes.{num, words_of}
use Rattle.container.specs.Reader.{short, read, part, number, counted}

module _ (s : List ℕ) (at : ℕ) where
  pub part_there : (n : ℕ) → n ≤ length s - at → part n (drop at s) ≡ read (take n (drop at s)) (drop (at + n) s)
  unfolding part
  part_there n h = rw (le-leb n (length (drop at s)) (rw length-drop (omega arith)), drop-drop n at s)

  pub part_short : (n : ℕ) → length s - at < n → part n (drop at s) ≡ short
  unfolding part
  part_short n h = rw (lt-leb n (length (drop at s)) (rw length-drop (omega arith)))

  pub number_there : (w : ℕ) → at + w ≤ length s → number w (drop at s) ≡ read (num (take w (drop at s))) (drop (at + w) s)
  unfolding number
  number_there w h = rw (part_there w (omega arith))

  pub number_short : (w : ℕ) → length s - at < w → number w (drop at s) ≡ short
  unfolding number
  number_short w h = rw (part_short w h)

-- a counted list whose count is n
module _ (s : List ℕ) (at n : ℕ) (e : n ≡ num (take 4 (drop at s))) (h : at + 4 ≤ length s) where
  pub counted_short : (length s - (at + 4)) / 8 < n → counted (drop at s) ≡ short
  unfolding counted
  counted_short l = rw (number_there s at 4 h, ← e, part_short s (at + 4) (n * 8) (omega arith))

  pub counted_there : n ≤ (length s - (at + 4)) / 8 → counted (drop at s) ≡ read (words_of n (take (n * 8) (drop (at + 4) s))) (drop (at + 4 + n * 8) s)
  unfolding counted
  counted_there l = rw (number_there s at 4 h, ← e, part_there s (at + 4) (n * 8) (omega arith))

pub no_count : (s : List ℕ) (at : ℕ) → length s - at < 4 → counted (drop at s) ≡ short
unfolding counted
no_count s at h = rw (number_short s at 4 h)
