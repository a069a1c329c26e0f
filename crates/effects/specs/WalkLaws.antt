-- The walk back over a log's records: what was asked of all is told by the older ones that are left. Assumes nothing.
use Rattle.std.specs.Prelude.{◌≡◌, ℕ, ◌≤◌, ◌<◌, drop}
use Rattle.std.proofs.Common.{sym, ◌∙◌, arith}
use Rattle.std.proofs.Math.Path.{ap}
use mathlib.Core.List.{List, [], ◌∷◌}
use Rattle.std.proofs.Math.ListN.{length, take}
use Rattle.std.proofs.Math.Seq.{length-take-le}
use Rattle.effects.specs.Log.{Effect, log_of, FitTrailers}
use Rattle.effects.specs.Trailers.{trailer_of, EndingAt}
use Rattle.effects.specs.LogLaws.{log_none, newest}
use Rattle.effects.specs.declared.trailer.Trailer.{Trailer}

-- the older effects, whose answer f gives that of all by g
pub record EffectsLeft {A : Type 0} (f : List Effect → A) (g : A → A) (log : List ℕ) (at : ℕ) (es : List Effect) : Type 0 where
  pub older : List Effect
  pub small : FitTrailers older
  pub bytes : take at log ≡ log_of older
  pub same : f es ≡ g (f older)

-- whatever effects the log has, those before `at` decide
pub record Walked {A : Type 0} (f : List Effect → A) (g : A → A) (log : List ℕ) (at : ℕ) : Type 0 where
  pub left : (es : List Effect) → FitTrailers es → log ≡ log_of es → EffectsLeft f g log at es

module _ {A : Type 0} (f : List Effect → A) (g : A → A) (log : List ℕ) where
  pub walk_end : (at : ℕ) → at ≡ 0 → Walked f g log at → (es : List Effect) → FitTrailers es → log ≡ log_of es → g (f []) ≡ f es
  walk_end at z w es s e =
      let p = w.left es s e in
      let n : length (log_of p.older) ≡ 0 = sym (ap length p.bytes) ∙ ap (λ (k : ℕ). length (take k log)) z in
      sym (p.same ∙ ap (λ (os : List Effect). g (f os)) (log_none p.older n))

-- t is the trailer of e's record, which begins where the log of the older ones ends
abbrev pub Tells : List ℕ → Trailer → Effect → List Effect → Type 0
Tells log t e es = (t ≡ trailer_of e es) × (take t.length (drop t.from log) ≡ e.bytes)

-- the newest record that is left, as its trailer tells
record Last {A : Type 0} (f : List Effect → A) (g : A → A) (log : List ℕ) (t : Trailer) (es : List Effect) : Type 0 where
  head : Effect
  rest : List Effect
  small : FitTrailers rest
  tells : Tells log t head rest
  front : take t.from log ≡ log_of rest
  same : f es ≡ g (f (head ∷ rest))

module _ {A : Type 0} {f : List Effect → A} {g : A → A} {log : List ℕ} {at : ℕ} (w : Walked f g log at) (l : at ≤ length log) (h : 0 < at)
    (t : Trailer) (b : EndingAt log at t) where
  last : (es : List Effect) → FitTrailers es → log ≡ log_of es → Last f g log t es
  unfolding trailer_of log_of
  last es s e = let p = w.left es s e in go p.older p.small p.bytes p.same
    where
      go : (os : List Effect) → FitTrailers os → take at log ≡ log_of os → f es ≡ g (f os) → Last f g log t es
      go [] sm by sa = absurd (omega (arith, length-take-le at log l, ap length by))
      go (o ∷ os) sm by sa =
          let n = newest log at o os l sm by in
          let is : t ≡ trailer_of o os = b.told o os sm by in
          record {
            head = o;
            rest = os;
            small = sm.2;
            tells = (is, ap (λ (u : Trailer). take u.length (drop u.from log)) is ∙ n.bytes);
            front = ap (λ (u : Trailer). take u.from log) is ∙ n.front;
            same = sa;
          }

  -- past a record: what the older ones answer gives the answer by g'
  pub walk_turn : (g' : A → A) → ((e : Effect) (es : List Effect) → Tells log t e es → g (f (e ∷ es)) ≡ g' (f es)) → Walked f g' log t.from
  walk_turn g' k = record {
    left = λ es s e.
        let n = last es s e in
        record { older = n.rest; small = n.small; bytes = n.front; same = n.same ∙ k n.head n.rest n.tells };
  }

  -- at a record that decides
  pub walk_stop : (v : A) → ((e : Effect) (es : List Effect) → Tells log t e es → g (f (e ∷ es)) ≡ v) →
      (es : List Effect) → FitTrailers es → log ≡ log_of es → v ≡ f es
  walk_stop v k es s e = let n = last es s e in sym (n.same ∙ k n.head n.rest n.tells)
