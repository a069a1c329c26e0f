-- The order of numbers, told three ways, and of byte strings of one length. Assumes nothing.
use Rattle.std.specs.Prelude.{◌≡◌, refl, true, false, List, [], ◌∷◌, ℕ, suc, ◌+◌, ◌*◌, ◌≤◌, ◌<◌, take, drop}
use Rattle.std.proofs.Math.Path.{sym, ap}
use Rattle.std.proofs.Common.{◌∙◌, take-append-drop, length-drop, drop_of_length-le, drop-drop}
use native.Mathlib.Omega.{arith}
use Rattle.std.proofs.Math.ListN.{length}
use Rattle.std.proofs.Math.Seq.{length-take-le}
use Rattle.words.specs.Bytes.{num, num_from, be_bytes, Bytes}
use Rattle.words.proofs.BytesTheorems.{bytes_take, bytes_drop, num_from_append, write_back}
use Rattle.std.specs.Ordering.{nat_cmp, is_ge}
use Rattle.std.specs.Cmp.{nat_cmp_is}
use Rattle.std.proofs.lemmas.Cmp.{ranked}
use Rattle.std.specs.declared.cmp.Ordering.{Ordering}
use Rattle.tables.specs.Walks.{Agree}
use Rattle.std.specs.declared.cmp.Ordering.TheVariants.{Less, Equal, Greater}

pub order_less : (a b : ℕ) → a < b → nat_cmp a b ≡ Less
order_less a b h = sym (nat_cmp_is a b Less h)

pub order_greater : (a b : ℕ) → b < a → nat_cmp a b ≡ Greater
order_greater a b h = sym (nat_cmp_is a b Greater h)

pub order_equal : (a b : ℕ) → a ≡ b → nat_cmp a b ≡ Equal
order_equal a b h = sym (nat_cmp_is a b Equal h)

-- the three ways that two numbers can stand, each with what `cmp` says
pub data Tri (a b : ℕ) : Type 0 where
  below : a < b → nat_cmp a b ≡ Less → Tri a b
  same : a ≡ b → nat_cmp a b ≡ Equal → Tri a b
  above : b < a → nat_cmp a b ≡ Greater → Tri a b

pub tri : (a b : ℕ) → Tri a b
tri a b = go (nat_cmp a b) refl
  where
    go : (o : Ordering) → o ≡ nat_cmp a b → Tri a b
    go Less e = below (ranked a b Less e) (sym e)
    go Equal e = same (ranked a b Equal e) (sym e)
    go Greater e = above (ranked a b Greater e) (sym e)

-- what the test of an order says
pub ge_is : (a b : ℕ) (o : Ordering) → o ≡ nat_cmp a b → true ≡ is_ge o → b ≤ a
ge_is a b Less e h = absurd cc
ge_is a b Equal e h = let q : a ≡ b = ranked a b Equal e in omega arith
ge_is a b Greater e h = let q : b < a = ranked a b Greater e in omega arith

pub lt_is : (a b : ℕ) (o : Ordering) → o ≡ nat_cmp a b → false ≡ is_ge o → a < b
lt_is a b Less e h = ranked a b Less e
lt_is a b Equal e h = absurd cc
lt_is a b Greater e h = absurd cc

-- more in front is more, whatever bytes follow
num_from_less : (xs ys : List ℕ) (x y : ℕ) → length xs ≡ length ys → Bytes xs → x < y → num_from x xs < num_from y ys
unfolding num_from
num_from_less [] [] x y e ba h = h
num_from_less [] (b ∷ ys) x y e ba h = absurd (omega arith)
num_from_less (a ∷ xs) [] x y e ba h = absurd (omega arith)
num_from_less (a ∷ xs) (b ∷ ys) x y e ba h = num_from_less xs ys (x * 256 + a) (y * 256 + b) (omega arith) (λ i. ba (suc i)) (omega (arith, ba 0))

-- whatever stands in front, bytes of one length keep their order
front_any : (xs ys : List ℕ) (x y : ℕ) → length xs ≡ length ys → Bytes xs → Bytes ys → num_from x xs < num_from x ys → num_from y xs < num_from y ys
unfolding num_from
front_any [] [] x y e ba bb h = absurd (omega arith)
front_any [] (b ∷ ys) x y e ba bb h = absurd (omega arith)
front_any (a ∷ xs) [] x y e ba bb h = absurd (omega arith)
front_any (a ∷ xs) (b ∷ ys) x y e ba bb h = go (tri a b) (λ u v l. front_any xs ys u v (omega arith) (λ i. ba (suc i)) (λ i. bb (suc i)) l)
  where
    go : Tri a b → ((u v : ℕ) → num_from u xs < num_from u ys → num_from v xs < num_from v ys) → num_from (y * 256 + a) xs < num_from (y * 256 + b) ys
    go (below l q) ih = num_from_less xs ys (y * 256 + a) (y * 256 + b) (omega arith) (λ i. ba (suc i)) (omega (arith, ba 0))
    go (same l q) ih = rw l (ih (x * 256 + b) (y * 256 + b) (rw l at h))
    go (above l q) ih = let k = num_from_less ys xs (x * 256 + b) (x * 256 + a) (omega arith) (λ i. bb (suc i)) (omega (arith, bb 0)) in absurd (omega arith)

pub agree_start : (a b : List ℕ) → Agree a b 0
unfolding num
agree_start a b = record { front = 0; left = refl; right = refl }

pub agree_sym : {a b : List ℕ} {i : ℕ} → Agree a b i → Agree b a i
agree_sym g = record { front = g.front; left = g.right; right = g.left }

module _ {a b : List ℕ} {i : ℕ} (g : Agree a b i) (e : length a ≡ length b) where
  -- w bytes more are read
  split : (w : ℕ) (s : List ℕ) → num s ≡ num_from g.front (drop i s) → num s ≡ num_from (num_from g.front (take w (drop i s))) (drop (i + w) s)
  split w s q =
      q ∙ ap (num_from g.front) (sym (take-append-drop w (drop i s))) ∙ num_from_append (take w (drop i s)) (drop w (drop i s)) g.front
      ∙ ap (num_from (num_from g.front (take w (drop i s)))) (drop-drop w i s)

  module _ (w : ℕ) (h : i + w ≤ length a) (ba : Bytes a) (bb : Bytes b) where
    -- as many bytes are left of both
    left_a : w ≤ length (drop i a)
    left_a = omega (arith, length-drop i a)

    left_b : w ≤ length (drop i b)
    left_b = omega (arith, length-drop i b)

    pub agree_next : num (take w (drop i a)) ≡ num (take w (drop i b)) → Agree a b (i + w)
    agree_next q =
        let same : take w (drop i a) ≡ take w (drop i b) =
        sym (write_back w (drop i a) left_a (bytes_drop i a ba)) ∙ ap (be_bytes w) q ∙ write_back w (drop i b) left_b (bytes_drop i b bb) in
        record { front = num_from g.front (take w (drop i a)); left = split w a g.left; right = rw same (split w b g.right) }

    pub agree_less : num (take w (drop i a)) < num (take w (drop i b)) → num a < num b
    unfolding num
    agree_less l =
        let parts : length (take w (drop i a)) ≡ length (take w (drop i b)) = length-take-le w (drop i a) left_a ∙ sym (length-take-le w (drop i b) left_b) in
        let front = front_any (take w (drop i a)) (take w (drop i b)) 0 g.front parts (bytes_take w (drop i a) (bytes_drop i a ba))
        (bytes_take w (drop i b) (bytes_drop i b bb)) l in
        rw (split w a g.left, split w b g.right)
        (num_from_less (drop (i + w) a) (drop (i + w) b) _ _ (simp (length-drop, e)) (bytes_drop (i + w) a ba) front)

  pub agree_end : length a ≤ i → num a ≡ num b
  unfolding num_from
  agree_end h =
      let hb : length b ≤ i = omega arith in
      g.left ∙ ap (num_from g.front) (drop_of_length-le a h ∙ sym (drop_of_length-le b hb)) ∙ sym g.right

-- where the next w bytes differ, they decide
pub agree_differ : {a b : List ℕ} {i : ℕ} → Agree a b i → length a ≡ length b → (w : ℕ) → i + w ≤ length a → Bytes a → Bytes b → (o : Ordering)
    → o ≡ nat_cmp (num (take w (drop i a))) (num (take w (drop i b))) → (o ≡ Equal → ⊥) → o ≡ nat_cmp (num a) (num b)
agree_differ {a} {b} g e w h ba bb Less o n = sym (order_less (num a) (num b) (agree_less g e w h ba bb (ranked _ _ Less o)))
agree_differ g e w h ba bb Equal o n = absurd (n refl)
agree_differ {a} {b} g e w h ba bb Greater o n =
    sym (order_greater (num a) (num b) (agree_less (agree_sym g) (sym e) w (omega arith) bb ba (ranked _ _ Greater o)))
