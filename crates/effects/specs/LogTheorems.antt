-- A log read back gives its effects, so it determines them; and what an append leaves is the log with one effect more. Assumes nothing.
use Rattle.std.specs.Prelude.{◌≡◌, refl, List, [], ◌∷◌, ◌++◌, ℕ, zero, suc, ◌+◌, ◌≤◌, ◌<◌, length, drop, Option, Some, None}
use Rattle.std.proofs.Common.{sym, ap, ◌∙◌, subst, arith, take-append-drop, take_all}
use Rattle.std.proofs.Math.ListN.{take}
use Rattle.effects.specs.Log.{Effect, record_of, log_of, FitTrailers}
use Rattle.effects.specs.ReadBack.{size_of, record_start, last_of, read_back, effects_of}
use Rattle.effects.specs.LogLaws.{Newest, newest, length_log}
use Rattle.effects.specs.Appended.{Grew, Appended}

-- the last record of a log is its newest effect's, and begins where the older ones' log ends
module _ (s : List ℕ) (e : Effect) (es : List Effect) (n : Newest s (length s) e es) where
  start_is : record_start s ≡ length (log_of es)
  unfolding record_start size_of
  start_is = omega (arith, n.end, n.size)

  last_is : last_of s ≡ e
  unfolding last_of size_of
  last_is = λ i. record { kind = n.kind i; word = n.word i; bytes = ((λ j. take (n.size j) (drop (start_is j) s)) ∙ n.bytes) i }

read_step : (k : ℕ) (s : List ℕ) → 0 < length s → read_back (suc k) s ≡ last_of s ∷ read_back k (take (record_start s) s)
unfolding read_back
read_step k [] h = absurd (omega arith)
read_step k (x ∷ s) h = refl

reads_back : (es : List Effect) (k : ℕ) → FitTrailers es → length (log_of es) ≤ k → read_back k (log_of es) ≡ es
unfolding read_back log_of
reads_back [] zero sm h = refl
reads_back [] (suc k) sm h = refl
reads_back (e ∷ es) zero sm h = absurd (omega (arith, length_log e es))
reads_back (e ∷ es) (suc k) sm h =
    let s : List ℕ = log_of (e ∷ es) in
    let l : length s ≡ length (log_of es) + length e.bytes + 13 = length_log e es in
    let n = newest s (length s) e es (omega arith) sm (take_all (length s) s (omega arith)) in
    let f : take (record_start s) s ≡ log_of es = ap (λ (j : ℕ). take j s) (start_is s e es n) ∙ n.front in
    read_step k s (omega arith) ∙ (λ i. last_is s e es n i ∷ read_back k (f i)) ∙ ap (λ (os : List Effect). e ∷ os) (reads_back es k sm.2 (omega arith))

-- a log read back gives its effects
pub read_back_log : (es : List Effect) → FitTrailers es → effects_of (log_of es) ≡ es
unfolding effects_of
read_back_log es sm = reads_back es (length (log_of es)) sm (omega arith)

-- a log determines its effects
pub log_determines : (es fs : List Effect) → FitTrailers es → FitTrailers fs → log_of es ≡ log_of fs → es ≡ fs
log_determines es fs se sf e = sym (read_back_log es se) ∙ ap effects_of e ∙ read_back_log fs sf

-- after an append the log is that of one effect more
pub appended_log : (e : Effect) (es : List Effect) (end m : ℕ) (t u : List ℕ) → Appended e end t u (Some m) → take end t ≡ log_of es → take m u ≡ log_of (e ∷ es)
unfolding log_of
appended_log e es end m t u a h = a.bytes.0 ∙ ap (λ (x : List ℕ). x ++ record_of e) h

-- whatever `append` is allowed to leave, there is one answer and one list of bytes
pub appended_once : (e : Effect) (end : ℕ) (t u v : List ℕ) (r s : Option ℕ) → Appended e end t u r → Appended e end t v s → (r ≡ s) × (u ≡ v)
appended_once e end t u v r s a b = let q = a.answer ∙ sym b.answer in (q, once r a.bytes (subst (λ (o : Option ℕ). Grew o e end t v) (sym q) b.bytes))
  where
    once : (o : Option ℕ) → Grew o e end t u → Grew o e end t v → u ≡ v
    once (Some m) x y = sym (take-append-drop m u) ∙ (λ i. (x.0 ∙ sym y.0) i ++ (x.1 ∙ sym y.1) i) ∙ take-append-drop m v
    once None x y = x ∙ sym y
