-- A trailer that was read is that of the newest record, if there is one. Assumes nothing.
use Rattle.std.specs.Prelude.{◌≡◌, List, ℕ, ◌+◌, ◌-◌, ◌≤◌, ◌<◌, take, drop, get_or}
use Rattle.std.proofs.Math.Path.{ap}
use Rattle.std.proofs.Common.{◌∙◌}
use native.Mathlib.Omega.{arith}
use Rattle.std.proofs.Math.ListN.{length}
use Rattle.words.specs.Bytes.{num}
use Rattle.effects.specs.Log.{Effect, log_of}
use Rattle.effects.specs.Trailers.{trailer_of, EndingAt}
use Rattle.effects.specs.LogLaws.{Newest, newest}
use Rattle.effects.specs.declared.trailer.Trailer.{Trailer}

module _ (log : List ℕ) (at : ℕ) (h : 0 < at) (l : at ≤ length log) where
  no_record : (r : Trailer) → r ≡ record { kind = 255; word = 0; length = 0; from = 0 } →
      ((e : Effect) (es : List Effect) → Newest log at e es → ⊥) → EndingAt log at r
  no_record r q never = rw q (record { less = h; within = omega arith; told = λ e es s b. absurd (never e es (newest log at e es l s b)) })

  -- no room for a trailer
  pub ending_short : (r : Trailer) → r ≡ record { kind = 255; word = 0; length = 0; from = 0 } → at < 13 → EndingAt log at r
  ending_short r q k = no_record r q (λ e es m. omega (arith, m.end))

  module _ (n : ℕ) (size : n ≡ num (take 4 (drop (at - 4) log))) where
    -- a record that would begin before the log does
    pub ending_bad : (r : Trailer) → r ≡ record { kind = 255; word = 0; length = 0; from = 0 } → at - 13 < n → EndingAt log at r
    ending_bad r q k = no_record r q (λ e es m. omega (arith, m.end, m.size))

    pub ending_read : (w : ℕ) → 13 ≤ at → n ≤ at - 13 → w ≡ num (take 8 (drop (at - 13 + 1) log))
        → EndingAt log at (record { kind = get_or log (at - 13) 0; word = w; length = n; from = at - 13 - n })
    unfolding trailer_of
    ending_read w k j word = record {
      less = omega arith;
      within = omega arith;
      told = λ e es s b.
          let m = newest log at e es l s b in
          let o : at - 13 + 1 ≡ at - 12 = omega arith in
          let p : n ≡ length e.bytes = size ∙ m.size in
          let q : at - 13 - n ≡ length (log_of es) = omega (arith, m.end) in
          λ i. record { kind = m.kind i; word = (word ∙ ap (λ (x : ℕ). num (take 8 (drop x log))) o ∙ m.word) i; length = p i; from = q i };
    }
