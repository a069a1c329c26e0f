-- What a record's trailer tells of it.
use Rattle.std.specs.Prelude.{◌≡◌, Bool, List, ◌∷◌, ℕ, ◌+◌, ◌≤◌, ◌<◌, length, take, eqb}
use Rattle.words.specs.Choice.{pick, both, either}
use Rattle.effects.specs.Log.{Effect, log_of, FitTrailers}
use Rattle.effects.specs.Targets.{mints}
use Rattle.effects.specs.declared.trailer.Trailer.{Trailer}

-- the trailer of an effect whose record begins where the log of the older ones ends
unfoldable pub trailer_of : Effect → List Effect → Trailer
trailer_of e es = record { kind = e.kind; word = e.word; length = length e.bytes; from = length (log_of es) }

-- r tells of the record that ends at a place, and lies before it whatever the bytes are
pub record EndingAt (log : List ℕ) (at : ℕ) (r : Trailer) : Type 0 where
  pub less : r.from < at
  pub within : r.from + r.length ≤ at
  pub told : (e : Effect) (es : List Effect) → FitTrailers (e ∷ es) → take at log ≡ log_of (e ∷ es) → r ≡ trailer_of e es

-- the record has a target
unfoldable pub durable_of : Trailer → Bool
durable_of t = either (eqb t.kind 0) (mints t.kind t.word t.length)

-- the record has a target of this kind and size
unfoldable pub alike_of : Trailer → ℕ → ℕ → Bool
alike_of t kind size = both (eqb t.kind kind) (pick (eqb t.kind 0) (eqb size t.length) (both (durable_of t) (eqb size 32)))
