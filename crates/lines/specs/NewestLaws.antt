-- A log without its newest records. Assumes nothing.
use Rattle.std.specs.Prelude.{◌≡◌, List, [], ◌∷◌, ℕ, ◌+◌, ◌-◌, ◌≤◌, ◌<◌, length, take, drop}
use Rattle.std.proofs.Common.{sym, ap, ◌∙◌, subst, arith, drop_of_length-le, drop-drop, length-take-le}
use Rattle.effects.specs.Log.{Effect, FitTrailers, log_of}
use Rattle.effects.specs.LogLaws.{log_none, newest}
use Rattle.effects.specs.Trailers.{trailer_of, EndingAt}
use Rattle.effects.specs.declared.trailer.Trailer.{Trailer}

-- whatever effects a log has, its first `at` bytes are the log of all but the i newest
pub record BeforeNewest (log : List ℕ) (at i : ℕ) : Type 0 where
  pub left : (es : List Effect) → FitTrailers es → log ≡ log_of es → FitTrailers (drop i es) × (take at log ≡ log_of (drop i es))

pub before_one : (log : List ℕ) (at i : ℕ) (t : Trailer) → 0 < at → at ≤ length log → EndingAt log at t →
    BeforeNewest log at i → BeforeNewest log t.from (i + 1)
unfolding trailer_of log_of
before_one log at i t h l b w = record {
  left = λ es s q.
      let (sm, by) = w.left es s q in
      subst (λ (os : List Effect). FitTrailers os × (take t.from log ≡ log_of os)) (drop-drop 1 i es) (go (drop i es) sm by);
}
  where
    go : (os : List Effect) → FitTrailers os → take at log ≡ log_of os → FitTrailers (drop 1 os) × (take t.from log ≡ log_of (drop 1 os))
    go [] sm by = absurd (omega (arith, length-take-le at log l, ap length by))
    go (e ∷ os) sm by = (sm.2, ap (λ (u : Trailer). take u.from log) (b.told e os sm by) ∙ (newest log at e os l sm by).front)

-- with nothing left, no more is taken away
pub before_all : (log : List ℕ) (at i k : ℕ) → at ≡ 0 → i ≤ k → BeforeNewest log at i →
    (es : List Effect) → FitTrailers es → log ≡ log_of es → take 0 log ≡ log_of (drop k es)
unfolding log_of
before_all log at i k z h w es s q =
    let (sm, by) = w.left es s q in
    let n : length (log_of (drop i es)) ≡ 0 = sym (ap length by) ∙ ap (λ (j : ℕ). length (take j log)) z in
    let e : drop i es ≡ [] = log_none (drop i es) n in
    let j : i + (k - i) ≡ k = omega arith in
    let none : drop k es ≡ [] =
    sym (ap (λ (m : ℕ). drop m es) j) ∙ sym (drop-drop (k - i) i es) ∙ ap (drop (k - i)) e ∙ drop_of_length-le [] {i = k - i} (omega arith) in
    sym (ap log_of none)
