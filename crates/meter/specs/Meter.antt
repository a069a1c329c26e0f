-- The meter and what it answers to a price (document 01, The run: 1 if the sum passes the limit).
use Rattle.std.specs.Prelude.{◌≡◌, ℕ, ◌+◌, ◌≤◌, leb, Option, Some, None}
use Rattle.words.specs.Choice.{pick}
use Rattle.meter.specs.declared.Meter.{Meter}

-- the price is paid where the sum is within the limit
abbrev pub charge_of : Meter → ℕ → Option Meter
charge_of m p = pick (leb (m.used + p) m.limit) (Some (record { used = m.used + p; limit = m.limit })) None

-- after a payment the limit is the same, and what is used is the sum and within the limit
pub record Within (m n : Meter) (p : ℕ) : Type 0 where
  pub used : n.used ≡ m.used + p
  pub limit : n.limit ≡ m.limit
  pub within : n.used ≤ n.limit

-- document 01's number of the answer
abbrev pub charged_number : Option Meter → ℕ
charged_number (Some m) = 0
charged_number None = 1
