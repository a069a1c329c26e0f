-- The words of a stack: as many as its depth, one more when pushed, one less when popped. Assumes nothing.
use Rattle.std.specs.Prelude.{◌≡◌, refl, List, ◌∷◌, ℕ, zero, suc, ◌+◌, ◌-◌, ◌≤◌, ◌<◌, length, get_or, set}
use Rattle.std.proofs.Common.{ap, arith, get_or-set_same, get_or-set_other}
use Rattle.machine.specs.Sound.{stack_of}

pub stack_length : (n : ℕ) (words : List ℕ) → length (stack_of n words) ≡ n
unfolding stack_of
stack_length zero words = refl
stack_length (suc n) words = ap suc (stack_length n words)

-- a word set at the depth or above is not stacked
stack_below : (n k v : ℕ) (words : List ℕ) → n ≤ k → stack_of n (set words k v) ≡ stack_of n words
unfolding stack_of
stack_below zero k v words h = refl
stack_below (suc n) k v words h = λ i. get_or-set_other words k n v 0 (λ z. omega arith) i ∷ stack_below n k v words (omega arith) i

pub stack_pushed : (n v : ℕ) (words : List ℕ) → n < length words → stack_of (n + 1) (set words n v) ≡ v ∷ stack_of n words
unfolding stack_of
stack_pushed n v words h =
    let z : n + 1 ≡ suc n = omega arith in
    rw z (λ i. get_or-set_same words n v 0 h i ∷ stack_below n n v words (omega arith) i)

pub stack_popped : (n : ℕ) (words : List ℕ) → (n ≡ 0 → ⊥) → stack_of n words ≡ get_or words (n - 1) 0 ∷ stack_of (n - 1) words
unfolding stack_of
stack_popped n words h = let z : n ≡ suc (n - 1) = omega arith in ap (λ (k : ℕ). stack_of k words) z
