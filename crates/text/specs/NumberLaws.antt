-- A number's digits taken one by one. Assumes nothing.
use Rattle.std.specs.Prelude.{◌≡◌, refl, List, [], ◌∷◌, ℕ, ◌+◌, ◌≤◌, ◌<◌, length, drop, get_or, Option, Some, None}
use Rattle.std.proofs.Common.{ap, arith, add-one, drop_of_length-le, drop-cons}
use Rattle.text.specs.Number.{with_digit, parsed_from, parsed_of}

pub parsed_none : (s : List ℕ) → length s ≡ 0 → parsed_of s ≡ None
unfolding parsed_of
parsed_none [] h = refl
parsed_none (x ∷ s) h = absurd (omega arith)

pub parsed_start : (s : List ℕ) → 0 < length s → parsed_of s ≡ parsed_from (Some 0) s
unfolding parsed_of
parsed_start [] h = absurd (omega arith)
parsed_start (x ∷ s) h = refl

-- a turn: the digit at i decides
pub parsed_turn : (s : List ℕ) (n i : ℕ) → i < length s →
    parsed_from (Some n) (drop i s) ≡ parsed_from (with_digit n (get_or s i 0)) (drop (i + 1) s)
unfolding parsed_from
parsed_turn s n i h = rw add-one (ap (parsed_from (Some n)) (drop-cons s i 0 h))

pub parsed_bad : (t : List ℕ) → parsed_from None t ≡ None
unfolding parsed_from
parsed_bad [] = refl
parsed_bad (x ∷ t) = refl

pub parsed_end : (s : List ℕ) (p : Option ℕ) (i : ℕ) → length s ≤ i → parsed_from p (drop i s) ≡ p
unfolding parsed_from
parsed_end s p i h = ap (parsed_from p) (drop_of_length-le s h)
