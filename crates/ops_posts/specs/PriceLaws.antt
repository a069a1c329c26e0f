-- The parts of a price make the price. Assumes nothing.
use Rattle.std.specs.Prelude.{◌≡◌, Bool, true, false, List, ℕ, ◌+◌, ◌*◌, ◌≤◌, leb, length, Some}
use Rattle.std.proofs.Common.{arith}
use Rattle.words.specs.Choice.{pick}
use Rattle.effects.specs.Log.{Effect}
use Rattle.effects.specs.Targets.{Target, target_of, known_in, any_target}
use Rattle.effects.specs.Counts.{events}
use Rattle.machine.specs.PostRules.{target_price, event_price}
use Rattle.ops_posts.specs.EffectRules.{effect, later_price}

-- a target's price by what the log holds: it, another, or none
pub known_free : (t : Target) (es : List Effect) → known_in t es ≡ true → 0 ≡ target_price (Some t) es
unfolding target_price
known_free t es k = rw k

pub another_paid : (t : Target) (es : List Effect) → known_in t es ≡ false → any_target es ≡ true → 227000 ≡ target_price (Some t) es
unfolding target_price
another_paid t es k a = rw (k, a)

pub first_free : (t : Target) (es : List Effect) → known_in t es ≡ false → any_target es ≡ false → 0 ≡ target_price (Some t) es
unfolding target_price
first_free t es k a = rw (k, a)

pub event_small : (n v : ℕ) → v ≡ pick (leb 4 n) 6250 0 → v ≤ 6250
event_small n v h = go (leb 4 n) h
  where
    go : (t : Bool) → v ≡ pick t 6250 0 → v ≤ 6250
    go true e = omega arith
    go false e = omega arith

module _ (kind word : ℕ) (bs : List ℕ) (es : List Effect) where
  pub transfer_price : (r : ℕ) → kind ≡ 0 → r ≡ target_price (Some (record { kind = 0; bytes = bs })) es → r ≡ later_price (effect kind word bs) es
  unfolding later_price target_of
  transfer_price r k h = rw k h

  pub event_sum : (mint n v : ℕ) → kind ≡ 1 → mint ≡ target_price (target_of (effect 1 word bs)) es → v ≡ pick (leb 4 n) 6250 0 → n ≡ events es
      → 98 * length bs + mint + v ≡ later_price (effect kind word bs) es
  unfolding later_price event_price
  event_sum mint n v k h p q = rw (k, h, p, q)
