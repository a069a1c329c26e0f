-- What the proofs of the prices and of the charge cite. Assumes nothing.
use Rattle.std.specs.Prelude.{◌≡◌, ℕ, ◌+◌, ◌<◌, None}
use Rattle.std.proofs.lemmas.Bool.{lt-leb}
use Rattle.meter.specs.declared.Meter.{Meter}
use Rattle.meter.specs.Meter.{charge_of}

pub charge_out : (m : Meter) (p : ℕ) → m.limit < m.used + p → None ≡ charge_of m p
charge_out m p h = rw (lt-leb (m.used + p) m.limit h)
