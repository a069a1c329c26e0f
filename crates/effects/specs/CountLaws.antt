-- What a record adds to a count, and what is counted. Assumes nothing.
use Rattle.std.specs.Prelude.{◌≡◌, refl, Bool, true, false, List, [], ◌∷◌, ℕ, ◌+◌, length, eqb}
use Rattle.std.proofs.Common.{ap, ◌∙◌, arith}
use Rattle.words.specs.Choice.{bit, either}
use Rattle.effects.specs.Log.{Effect}
use Rattle.effects.specs.Counts.{events, count_of}
use Rattle.effects.specs.Trailers.{trailer_of}
use Rattle.effects.specs.declared.trailer.Trailer.{Trailer}

pub count_turn : (all : Bool) (n v : ℕ) (t : Trailer) → v ≡ bit (either all (eqb t.kind 1)) → (e : Effect) (es : List Effect) → t ≡ trailer_of e es
    → n + count_of all (e ∷ es) ≡ n + v + count_of all es
unfolding count_of trailer_of
count_turn all n v t p e es q =
    let w : v ≡ bit (either all (eqb e.kind 1)) = p ∙ ap (λ (u : Trailer). bit (either all (eqb u.kind 1))) q in
    omega arith

pub count_all : (es : List Effect) → count_of true es ≡ length es
unfolding count_of
count_all [] = refl
count_all (e ∷ es) = omega (arith, count_all es)

pub count_events : (es : List Effect) → count_of false es ≡ events es
unfolding count_of events
count_events [] = refl
count_events (e ∷ es) = ap (λ (n : ℕ). bit (eqb e.kind 1) + n) (count_events es)
