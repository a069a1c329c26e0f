-- What a trailer and a record's bytes tell of its target. Assumes nothing.
use Rattle.std.specs.Prelude.{◌≡◌, Bool, ℕ, ◌+◌, ◌≤◌, ◌<◌, length, take, drop, get_or, leb}
use Rattle.std.proofs.Math.Path.{refl}
use Rattle.std.proofs.Common.{sym, ap, ◌∙◌, arith, length-drop, take_all, take-take, length-take-le, get_or-take, get_or-drop, ext_get_or, eq-eqb, eqb-true, leb-true}
use Rattle.std.proofs.Math.Bool.{true, false}
use mathlib.Core.List.{List, [], ◌∷◌}
use Rattle.std.proofs.Math.Dec.{eqb}
use Rattle.std.proofs.lemmas.Bool.{eqb-false}
use Rattle.words.specs.Choice.{pick, both, either}
use Rattle.words.specs.ChoiceLaws.{both_assoc, both_false, both_left, both_right}
use Rattle.effects.specs.Log.{Effect}
use Rattle.effects.specs.Targets.{Target, mint_word, mints, target_of, same, is_target, has_target, known_in, any_target}
use Rattle.effects.specs.Trailers.{trailer_of, durable_of, alike_of}
use Rattle.effects.specs.WalkLaws.{Tells}
use Rattle.effects.specs.declared.trailer.Trailer.{Trailer}

-- equal lists

same_self : (xs : List ℕ) → same xs xs ≡ true
unfolding same
same_self [] = refl
same_self (x ∷ xs) = rw (eq-eqb x x refl) (same_self xs)

true_same : (xs ys : List ℕ) → same xs ys ≡ true → xs ≡ ys
unfolding same
true_same [] [] e = refl
true_same [] (y ∷ ys) e = absurd cc
true_same (x ∷ xs) [] e = absurd cc
true_same (x ∷ xs) (y ∷ ys) e =
    let h : x ≡ y = eqb-true x y (both_left (eqb x y) (same xs ys) e) in
    let t : xs ≡ ys = true_same xs ys (both_right (eqb x y) (same xs ys) e) in
    λ i. h i ∷ t i

same_false : (xs ys : List ℕ) → (xs ≡ ys → ⊥) → same xs ys ≡ false
same_false xs ys h = go (same xs ys) refl
  where
    go : (b : Bool) → same xs ys ≡ b → same xs ys ≡ false
    go true e = absurd (h (true_same xs ys e))
    go false e = e

-- the first m of xs are ys: m is ys' length, and so many of xs are ys
part_same : (xs ys : List ℕ) (m : ℕ) → m ≤ length xs → same (take m xs) ys ≡ both (eqb (length ys) m) (same (take (length ys) xs) ys)
part_same xs ys m h = go (eqb (length ys) m) refl
  where
    go : (b : Bool) → eqb (length ys) m ≡ b → same (take m xs) ys ≡ both b (same (take (length ys) xs) ys)
    go true e = ap (λ (k : ℕ). same (take k xs) ys) (sym (eqb-true (length ys) m e))
    go false e = same_false (take m xs) ys (λ q. eqb-false (length ys) m e (sym (ap length q) ∙ length-take-le m xs h))

-- what the tests tell

-- what a mint is
mints_are : (k w n : ℕ) → mints k w n ≡ true → (k ≡ 1) × (40 ≤ n)
unfolding mints
mints_are k w n e =
    let r = both_right (eqb k 1) (both (eqb w mint_word) (leb 40 n)) e in
    (eqb-true k 1 (both_left (eqb k 1) (both (eqb w mint_word) (leb 40 n)) e), leb-true 40 n (both_right (eqb w mint_word) (leb 40 n) r))

-- a record has a target where its trailer says so
durable_is : (e : Effect) (t : Trailer) (es : List Effect) → t ≡ trailer_of e es → has_target (target_of e) ≡ durable_of t
unfolding target_of durable_of has_target trailer_of
durable_is e t es q = go (eqb e.kind 0) refl (mints e.kind e.word (length e.bytes)) refl
  where
    go : (a : Bool) → eqb e.kind 0 ≡ a → (b : Bool) → mints e.kind e.word (length e.bytes) ≡ b → has_target (target_of e) ≡ durable_of t
    go true p b r = rw (q, p)
    go false p true r = rw (q, p, r)
    go false p false r = rw (q, p, r)

-- a record has this target where kind and size are alike and so many of its bytes are the target's
module _ (g : Target) (e : Effect) (es : List Effect) where
  abbrev wanted : Bool
  wanted = same (take (length g.bytes) e.bytes) g.bytes

  some_part : (k m : ℕ) → k ≡ e.kind → m ≤ length e.bytes
      → both (eqb k g.kind) (same (take m e.bytes) g.bytes) ≡ both (both (eqb e.kind g.kind) (eqb (length g.bytes) m)) wanted
  some_part k m q h =
      ap (λ (j : ℕ). both (eqb j g.kind) (same (take m e.bytes) g.bytes)) q
      ∙ ap (both (eqb e.kind g.kind)) (part_same e.bytes g.bytes m h)
      ∙ sym (both_assoc (eqb e.kind g.kind) (eqb (length g.bytes) m) wanted)

  hit : is_target g (target_of e) ≡ both (alike_of (trailer_of e es) g.kind (length g.bytes)) wanted
  unfolding is_target target_of alike_of durable_of trailer_of
  hit = go (eqb e.kind 0) refl (mints e.kind e.word (length e.bytes)) refl
    where
      go : (a : Bool) → eqb e.kind 0 ≡ a → (b : Bool) → mints e.kind e.word (length e.bytes) ≡ b
          → is_target g (target_of e) ≡ both (alike_of (trailer_of e es) g.kind (length g.bytes)) wanted
      go true p b r =
          rw p
          (ap (λ (x : List ℕ). both (eqb 0 g.kind) (same x g.bytes)) (sym (take_all (length e.bytes) e.bytes (omega arith)))
          ∙ some_part 0 (length e.bytes) (sym (eqb-true e.kind 0 p)) (omega arith))
      go false p true r = let (one, long) = mints_are e.kind e.word (length e.bytes) r in rw (p, r) (some_part 1 32 (sym one) (omega arith))
      go false p false r = rw (p, r, both_false (eqb e.kind g.kind))

-- a target is within its record
pub alike_within : (t : Trailer) (k n : ℕ) → alike_of t k n ≡ true → n ≤ t.length
unfolding alike_of durable_of
alike_within t k n h = go (eqb t.kind 0) refl (mints t.kind t.word t.length) refl
  where
    right : pick (eqb t.kind 0) (eqb n t.length) (both (durable_of t) (eqb n 32)) ≡ true
    right = both_right (eqb t.kind k) _ h

    go : (a : Bool) → eqb t.kind 0 ≡ a → (b : Bool) → mints t.kind t.word t.length ≡ b → n ≤ t.length
    go true p b r = let q = eqb-true n t.length (rw p at right) in omega arith
    go false p true r = let q = eqb-true n 32 (rw (p, r) at right) in omega (arith, mints_are t.kind t.word t.length r)
    go false p false r = let f : false ≡ true = rw (p, r) at right in absurd cc

-- the same, by the trailer and the log's bytes at its place
abbrev pub hits : Target → Trailer → List ℕ → Bool
hits g t log = both (alike_of t g.kind (length g.bytes)) (same (take (length g.bytes) (drop t.from log)) g.bytes)

hit_here : (g : Target) (log : List ℕ) (t : Trailer) (e : Effect) (es : List Effect) → Tells log t e es → is_target g (target_of e) ≡ hits g t log
hit_here g log t e es (q, b) = go (alike_of t g.kind (length g.bytes)) refl
  where
    is : alike_of (trailer_of e es) g.kind (length g.bytes) ≡ alike_of t g.kind (length g.bytes)
    is = ap (λ (u : Trailer). alike_of u g.kind (length g.bytes)) (sym q)

    go : (a : Bool) → alike_of t g.kind (length g.bytes) ≡ a →
        is_target g (target_of e) ≡ both a (same (take (length g.bytes) (drop t.from log)) g.bytes)
    go true r =
        let w = alike_within t g.kind (length g.bytes) r in
        let p = ap (take (length g.bytes)) (sym b) ∙ take-take (length g.bytes) t.length (drop t.from log) w in
        hit g e es ∙ rw (is ∙ r) (ap (λ (x : List ℕ). same x g.bytes) p)
    go false r = hit g e es ∙ rw (is ∙ r)

-- bytes compared one by one, the last first

module _ (log ys : List ℕ) (from : ℕ) (h : from + length ys ≤ length log) where
  part : length (take (length ys) (drop from log)) ≡ length ys
  part = length-take-le (length ys) (drop from log) (omega (arith, length-drop from log))

  at : (i : ℕ) → i < length ys → get_or (take (length ys) (drop from log)) i 0 ≡ get_or log (from + i) 0
  at i l = get_or-take (length ys) (drop from log) i 0 l ∙ get_or-drop from log i 0

  pub all_same : ((k : ℕ) → k < length ys → get_or log (from + k) 0 ≡ get_or ys k 0) → same (take (length ys) (drop from log)) ys ≡ true
  all_same f =
      let q = ext_get_or 0 (take (length ys) (drop from log)) ys part (λ i l. let m : i < length ys = omega (arith, part) in at i m ∙ f i m) in
      ap (λ (x : List ℕ). same x ys) q ∙ same_self ys

  pub one_differs : (i : ℕ) → i < length ys → (get_or log (from + i) 0 ≡ get_or ys i 0 → ⊥) → same (take (length ys) (drop from log)) ys ≡ false
  one_differs i l d = same_false _ ys (λ e. d (sym (at i l) ∙ ap (λ (x : List ℕ). get_or x i 0) e))

-- what a record says of all

pub known_told : (g : Target) (log : List ℕ) (t : Trailer) (e : Effect) (es : List Effect) → Tells log t e es →
    known_in g (e ∷ es) ≡ either (hits g t log) (known_in g es)
unfolding known_in
known_told g log t e es k = rw (hit_here g log t e es k)

pub any_told : (log : List ℕ) (t : Trailer) (e : Effect) (es : List Effect) → Tells log t e es → any_target (e ∷ es) ≡ either (durable_of t) (any_target es)
unfolding any_target
any_told log t e es k = rw (durable_is e t es k.0)
