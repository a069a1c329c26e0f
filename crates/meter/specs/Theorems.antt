-- What a reader may cite of prices and of the meter. Assumes nothing.
use Rattle.std.specs.Prelude.{◌≡◌, refl, ◌↔◌, Bool, true, false, ℕ, ◌+◌, ◌-◌, ◌^◌, ◌≤◌, ◌<◌, min, leb, Option, Some, None}
use Rattle.std.proofs.Common.{sym, arith, leb-true, leb-false}
use Rattle.words.specs.Choice.{pick}
use Rattle.meter.specs.declared.Meter.{Meter}
use Rattle.meter.specs.Meter.{charge_of, Within}
use Rattle.meter.specs.Laws.{charge_out}

-- a price that is capped at the largest word decides as the plain one
pub capped_decides : (used limit p : ℕ) → 1 ≤ used → limit < 2 ^ 64 → (used + min p (2 ^ 64 - 1) ≤ limit) ↔ (used + p ≤ limit)
capped_decides used limit p u l = ((λ h. omega arith), (λ h. omega arith))

-- a payment stays within the limit
pub paid_within : (m n : Meter) (p : ℕ) → charge_of m p ≡ Some n → Within m n p
paid_within m n p = go (leb (m.used + p) m.limit) refl
  where
    go : (t : Bool) → leb (m.used + p) m.limit ≡ t → pick t (Some (record { used = m.used + p; limit = m.limit })) None ≡ Some n → Within m n p
    go true e h =
        let k : n ≡ record { used = m.used + p; limit = m.limit } = cc in
        rw k (record { used = refl; limit = refl; within = leb-true (m.used + p) m.limit e })
    go false e h = absurd (let z : ◌≡◌ {A = ℕ} 0 1 = cc in omega arith)

-- a charge is out of meter exactly when the sum is above the limit
pub out_exactly : (m : Meter) (p : ℕ) → (charge_of m p ≡ None) ↔ (m.limit < m.used + p)
out_exactly m p = (go (leb (m.used + p) m.limit) refl, λ h. sym (charge_out m p h))
  where
    go : (t : Bool) → leb (m.used + p) m.limit ≡ t → pick {A = Option Meter} t (Some (record { used = m.used + p; limit = m.limit })) None ≡ None
        → m.limit < m.used + p
    go true e h = absurd (let z : ◌≡◌ {A = ℕ} 0 1 = cc in omega arith)
    go false e h = leb-false (m.used + p) m.limit e
