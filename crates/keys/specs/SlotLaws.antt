-- Laws of declared slots: what is left of a search decides, and which keys are a slot's. Assumes nothing.
use Rattle.std.specs.Prelude.{◌≡◌, refl, Bool, true, false, List, [], ◌∷◌, eqb, length, replicate}
use Rattle.std.proofs.Math.Path.{sym, ap}
use Rattle.std.proofs.Common.{◌∙◌, take-append-drop, get_or-drop}
use Prim.Native.Nat.{ℕ, zero, suc, ◌+◌, ◌*◌, ◌-◌, ◌≤◌, ◌<◌, ◌/◌}
use native.Mathlib.Omega.{arith}
use Rattle.std.proofs.Math.ListN.{take, drop, length-drop}
use Rattle.std.proofs.Math.Seq.{drop-drop, take_all}
use borrow.Author.Tests.{eq-eqb, ne_eqb}
use Rattle.words.specs.Choice.{either}
use Rattle.words.specs.Bytes.{num, num_from, Bytes, words_of, words_in}
use Rattle.words.proofs.BytesTheorems.{num_from_append, num_below}
use Rattle.words.specs.Lists.{member}
use Rattle.std.specs.List.{All}
use Rattle.std.proofs.lemmas.List.Elements.{All-cons}

-- ---- a number among slots: what is left decides

module _ (n i x : ℕ) (s : List ℕ) where
  words_on : i < n → words_of (n - i) (drop (i * 8) s) ≡ num (take 8 (drop (i * 8) s)) ∷ words_of (n - (i + 1)) (drop ((i + 1) * 8) s)
  unfolding words_of
  words_on h =
      let j : n - i ≡ suc (n - (i + 1)) = omega arith in
      let d : i * 8 + 8 ≡ (i + 1) * 8 = omega arith in
      rw (j, drop-drop 8 (i * 8) s, d)

  pub listed_hit : i < n → num (take 8 (drop (i * 8) s)) ≡ x → member x (words_of (n - i) (drop (i * 8) s)) ≡ true
  unfolding member
  listed_hit h e = rw (words_on h, eq-eqb (num (take 8 (drop (i * 8) s))) x e)

  pub listed_on : i < n → (num (take 8 (drop (i * 8) s)) ≡ x → ⊥)
      → member x (words_of (n - i) (drop (i * 8) s)) ≡ member x (words_of (n - (i + 1)) (drop ((i + 1) * 8) s))
  unfolding member
  listed_on h e = rw (words_on h, ne_eqb (num (take 8 (drop (i * 8) s))) x e)

  pub listed_end : n ≤ i → member x (words_of (n - i) (drop (i * 8) s)) ≡ false
  unfolding member words_of
  listed_end h = let j : n - i ≡ 0 = omega arith in rw j

-- a slot that is the number, wherever it stands
pub listed_at : (i n x : ℕ) (s : List ℕ) → i < n → num (take 8 (drop (i * 8) s)) ≡ x → member x (words_of n s) ≡ true
unfolding member words_of
listed_at i zero x s h e = absurd (omega arith)
listed_at zero (suc n) x s h e = rw (eq-eqb (num (take 8 s)) x e)
listed_at (suc i) (suc n) x s h e =
    let d : 8 + i * 8 ≡ suc i * 8 = omega arith in
    rw (listed_at i n x (drop 8 s) (omega arith) (rw (drop-drop (i * 8) 8 s, d) e)) (or_later (eqb (num (take 8 s)) x))
  where
    or_later : (t : Bool) → either t true ≡ true
    or_later true = refl
    or_later false = refl

-- ---- a key of 32 bytes is a slot's if its first 24 bytes are 0

num_from_low : (ys : List ℕ) (n x y : ℕ) → x ≤ y → length ys ≡ n → num_from x (replicate n 0) ≤ num_from y ys
unfolding num_from
num_from_low [] zero x y h e = h
num_from_low [] (suc n) x y h e = absurd (omega arith)
num_from_low (b ∷ ys) zero x y h e = absurd (omega arith)
num_from_low (b ∷ ys) (suc n) x y h e = num_from_low ys n (x * 256 + 0) (y * 256 + b) (omega arith) (omega arith)

key_parts : (key : List ℕ) → num key ≡ num_from (num (take 24 key)) (drop 24 key)
unfolding num
key_parts key = ap (num_from 0) (sym (take-append-drop 24 key)) ∙ num_from_append (take 24 key) (drop 24 key) 0

high_key : (key : List ℕ) → length key ≡ 32 → 0 < num (take 24 key) → 18446744073709551616 ≤ num key
unfolding num_from
high_key key l h =
    let q : 18446744073709551616 ≤ num_from (num (take 24 key)) (drop 24 key) =
    num_from_low (drop 24 key) 8 1 (num (take 24 key)) h (omega (arith, length-drop 24 key)) in
    rw (key_parts key) q

-- no slot reaches past eight bytes
no_word : (y n : ℕ) (s : List ℕ) → 18446744073709551616 ≤ y → Bytes s → n * 8 ≤ length s → member y (words_of n s) ≡ false
unfolding member words_of
no_word y zero s h b l = refl
no_word y (suc n) s h b l =
    let w : num (take 8 s) < 18446744073709551616 = num_below 8 s (omega arith) b in
    rw (ne_eqb (num (take 8 s)) y (λ e. omega arith)) (no_word y n (drop 8 s) h (λ i. rw get_or-drop (b (8 + i))) (omega (arith, length-drop 8 s)))

-- bytes are the number 0 exactly if all are 0
zero_num : (xs : List ℕ) → All (λ b. b ≡ 0) xs → num_from 0 xs ≡ 0
unfolding num_from
zero_num [] h = refl
zero_num (x ∷ xs) h = let e : 0 * 256 + x ≡ 0 = omega (arith, h 0 0 (omega arith)) in rw e (zero_num xs (λ k d l. h (suc k) d (omega arith)))

num_zero : (xs : List ℕ) (v : ℕ) → num_from v xs ≡ 0 → (v ≡ 0) × All (λ b. b ≡ 0) xs
unfolding num_from
num_zero [] v e = (e, λ k d l. absurd (omega arith))
num_zero (x ∷ xs) v e =
    let (p, q) = num_zero xs (v * 256 + x) e in
    (omega arith, All-cons (λ b. b ≡ 0) x xs (omega arith) q)

-- what a key's first 24 bytes tell
module _ (key s : List ℕ) (l : length key ≡ 32) where
  pub is_slot : (v : ℕ) → All (λ b. b ≡ 0) (take 24 key) → v ≡ num (take 8 (drop 24 key)) → v ≡ num key
  unfolding num
  is_slot v z e =
      let w : take 8 (drop 24 key) ≡ drop 24 key = take_all 8 (drop 24 key) (omega (arith, length-drop 24 key)) in
      e ∙ ap num w ∙ sym (key_parts key ∙ ap (λ (x : ℕ). num_from x (drop 24 key)) (zero_num (take 24 key) z))

  pub no_slot : Bytes s → ¬ (All (λ b. b ≡ 0) (take 24 key)) → false ≡ member (num key) (words_in s)
  unfolding num
  no_slot b z = sym (no_word (num key) (length s / 8) s (high_key key l (go (num (take 24 key)) refl)) b (omega arith))
    where
      go : (x : ℕ) → num (take 24 key) ≡ x → 0 < x
      go zero e = absurd (z (num_zero (take 24 key) 0 e).1)
      go (suc x) e = omega arith
