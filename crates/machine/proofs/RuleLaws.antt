-- What a rule's play comes to, by induction over the rule: its bill used, as many fetches, every condition met, no fault with the number 0. Assumes nothing.
use Rattle.std.specs.Prelude.{◌≡◌, refl, Bool, true, false, ℕ, zero, suc, ◌+◌, ◌≤◌, leb}
use Rattle.std.proofs.Common.{ap, ◌∙◌, arith, leb-true, leb-false}
use Rattle.std.proofs.lemmas.Bool.{lt-leb}
use Rattle.words.specs.Choice.{pick}
use Rattle.words.specs.Refusals.{refusal}
use Rattle.machine.specs.Machine.{Machine, metered}
use Rattle.machine.specs.Steps.{Step}
use Rattle.machine.specs.Steps as step
use Rattle.machine.specs.Rules.{Rule, next, halt, pass, pay, play, bill, left_by}

-- every outcome on the way is 0
abbrev pub Passed : Rule → Type 0
Passed (next m) = Unit {0}
Passed (halt m) = Unit {0}
Passed (pass k r) = (k ≡ 0) × Passed r
Passed (pay p r) = Passed r

-- p is the machine at the rule's end, with its bill used and that within the limit
pub record AtEnd (l u n : ℕ) (r : Rule) (p : Machine) : Type 0 where
  pub is : p ≡ metered (left_by r) (u + bill r) n
  pub within : u ≤ l → u + bill r ≤ l
  pub passed : Passed r

abbrev pub Keeps : (l u n : ℕ) → Rule → Step → Type 0
Keeps l u n r (step.next p) = AtEnd l u n r p
Keeps l u n r (step.halt p) = AtEnd l u n r p
Keeps l u n r (step.fault x) = 1 ≤ x.number

-- a step keeps a rule's account if it keeps another's, where the accounts are alike
keeps_as : (l u n v : ℕ) (r q : Rule) → ((p : Machine) → AtEnd l u n r p → AtEnd l v n q p) → (s : Step) → Keeps l u n r s → Keeps l v n q s
keeps_as l u n v r q f (step.next p) h = f p h
keeps_as l u n v r q f (step.halt p) h = f p h
keeps_as l u n v r q f (step.fault x) h = h

pub keeps : (l u n : ℕ) (r : Rule) → Keeps l u n r (play l u n r)
unfolding play bill left_by
keeps l u n (next m) = let z : u ≡ u + 0 = omega arith in record { is = ap (λ (x : ℕ). metered m x n) z; within = λ h. omega arith; passed = tt }
keeps l u n (halt m) = let z : u ≡ u + 0 = omega arith in record { is = ap (λ (x : ℕ). metered m x n) z; within = λ h. omega arith; passed = tt }
keeps l u n (pass zero r) =
    keeps_as l u n u r (pass zero r) (λ p h. record { is = h.is; within = h.within; passed = (refl, h.passed) }) (play l u n r) (keeps l u n r)
keeps l u n (pass (suc k) r) = omega arith
keeps l u n (pay x r) = go (leb (u + x) l) refl (keeps l (u + x) n r)
  where
    go : (b : Bool) → leb (u + x) l ≡ b → Keeps l (u + x) n r (play l (u + x) n r) →
        Keeps l u n (pay x r) (pick b (play l (u + x) n r) (step.fault (refusal 1 0)))
    go false q k = omega arith
    go true q k =
        let z : u + x + bill r ≡ u + (x + bill r) = omega arith in
        keeps_as l (u + x) n u r (pay x r)
        (λ p h. record { is = h.is ∙ ap (λ (y : ℕ). metered (left_by r) y n) z; within = λ w. omega (arith, h.within (leb-true (u + x) l q)); passed = h.passed })
        (play l (u + x) n r) k

-- ---- rules that play the same

abbrev pub Same : Rule → Rule → Type 0
Same r q = (l u n : ℕ) → play l u n r ≡ play l u n q

pub pass_same : (k : ℕ) (r q : Rule) → Same r q → Same (pass k r) (pass k q)
unfolding play
pass_same zero r q h = h
pass_same (suc k) r q h = λ l u n. refl

pub pay_same : (p : ℕ) (r q : Rule) → Same r q → Same (pay p r) (pay p q)
unfolding play
pay_same p r q h = λ l u n. ap (λ (s : Step). pick (leb (u + p) l) s (step.fault (refusal 1 0))) (h l (u + p) n)

-- nothing can come between two prices, so they may be paid in one sum
pub pay_twice : (p q : ℕ) (r : Rule) → Same (pay p (pay q r)) (pay (p + q) r)
unfolding play
pay_twice p q r = λ l u n. go l u n (leb (u + p) l) refl
  where
    go : (l u n : ℕ) (t : Bool) → leb (u + p) l ≡ t →
        pick t (pick (leb (u + p + q) l) (play l (u + p + q) n r) (step.fault (refusal 1 0))) (step.fault (refusal 1 0)) ≡ play l u n (pay (p + q) r)
    go l u n true h = let z : u + p + q ≡ u + (p + q) = omega arith in ap (λ (x : ℕ). pick (leb x l) (play l x n r) (step.fault (refusal 1 0))) z
    go l u n false h = rw (lt-leb (u + (p + q)) l (omega (arith, leb-false (u + p) l h)))
