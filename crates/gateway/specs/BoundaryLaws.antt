-- Words copied to the front of a buffer, and what follows for an answer. Assumes nothing.
use Rattle.std.specs.Prelude.{◌≡◌, List, ℕ, ◌%◌, ◌^◌, ◌≤◌, ◌<◌, length, get_or, ltb}
use Rattle.std.proofs.Common.{ap, ◌∙◌, lt-ltb, le-ltb}
use Rattle.words.specs.Choice.{pick}
use Rattle.gateway.specs.Boundary.{words_into, answered, answered_of, told, told_of}

-- words that do not fit
pub too_long : (ws l : List ℕ) → length l < length ws → answered 48 l ≡ answered_of ws l
unfolding answered_of
too_long ws l h = rw (lt-ltb (length l) (length ws) h)

-- words that do
pub fitting : (ws l u : List ℕ) → length ws ≤ length l → u ≡ words_into ws l → answered (get_or ws 0 0 % 2 ^ 32) u ≡ answered_of ws l
unfolding answered_of
fitting ws l u h e = rw (le-ltb (length l) (length ws) h, e)

-- an answer that is too short, of a call that lends more: nothing is touched
pub untouched : {A : Type 0} → (b c : A) (ws l : List ℕ) → length l < length ws → told 48 l b ≡ told_of b c ws l
unfolding answered_of told_of
untouched b c ws l h = rw (lt-ltb (length l) (length ws) h)

-- one that is long enough: what the call left, and the words of what it answered
pub passed : {A : Type 0} → (b c d : A) (ws vs l u : List ℕ) (n : ℕ) → length vs ≤ length l → c ≡ d → ws ≡ vs → answered n u ≡ answered_of ws l →
    told n u c ≡ told_of b d vs l
unfolding told_of
passed b c d ws vs l u n h e w p =
    let q : answered n u ≡ answered_of vs l = p ∙ ap (λ (x : List ℕ). answered_of x l) w in
    let t : c ≡ pick (ltb (length l) (length vs)) b d = rw (le-ltb (length l) (length vs) h) e in
    λ i. record { given = q i; lent = t i }
