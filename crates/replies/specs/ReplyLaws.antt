-- Zeroes from a place on, and what each test of a reply row tells. Assumes nothing.
use Rattle.std.specs.Prelude.{◌≡◌, refl, Bool, true, false, List, [], ◌∷◌, ◌++◌, ℕ, ◌+◌, ◌≤◌, length, take, drop, get_or, leb, eqb, zero, suc, IsTrue, All, ◌↔◌}
use Rattle.std.proofs.Common.{sym, ap, ◌∙◌, arith, length-drop, take-append-drop, drop_of_length-le, drop-cons, drop-drop, length-take-le, leb-true, eq-eqb, eqb-true}
use Rattle.std.proofs.lemmas.List.{drop-append-le}
use Rattle.words.specs.Bytes.{num}
use Rattle.words.specs.Choice.{both}
use Rattle.words.specs.ChoiceLaws.{both_assoc, both_true, both_left, both_right}
use Rattle.replies.specs.Reply.{reply_of, zeros, good_register, good_region, good_reply}
use Rattle.replies.specs.Walks.{after_outcome, after_zeros}
use Rattle.replies.specs.declared.reply.Reply.{Reply}

-- the test and the fact
all_zeros : (xs : List ℕ) → All (λ x. x ≡ 0) xs → zeros xs ≡ true
unfolding zeros
all_zeros [] h = refl
all_zeros (x ∷ xs) h = rw (eq-eqb x 0 (h 0 0 (omega arith))) (all_zeros xs (λ k d l. h (suc k) d (omega arith)))

zeros_all : (xs : List ℕ) → zeros xs ≡ true → All (λ x. x ≡ 0) xs
unfolding zeros
zeros_all [] e k d l = absurd (omega arith)
zeros_all (x ∷ xs) e zero d l = eqb-true x 0 (both_left (eqb x 0) (zeros xs) e)
zeros_all (x ∷ xs) e (suc k) d l = zeros_all xs (both_right (eqb x 0) (zeros xs) e) k d (omega arith)

pub zeros_exactly : (b : Bool) (xs : List ℕ) → (IsTrue b ↔ All (λ x. x ≡ 0) xs) → b ≡ zeros xs
zeros_exactly true xs h = sym (all_zeros xs (h.0 refl))
zeros_exactly false xs h = go (zeros xs) refl
  where
    go : (z : Bool) → zeros xs ≡ z → false ≡ z
    go false e = refl
    go true e = h.1 (zeros_all xs e)

zeros_append : (a b : List ℕ) → zeros (a ++ b) ≡ both (zeros a) (zeros b)
unfolding zeros
zeros_append [] b = refl
zeros_append (x ∷ a) b = ap (both (eqb x 0)) (zeros_append a b) ∙ sym (both_assoc (eqb x 0) (zeros a) (zeros b))

-- the bytes past the length and the last byte, in one walk
zeros_past : (s : List ℕ) (n : ℕ) → length s ≡ 48 → n ≤ 32 → zeros (drop (n + 15) s) ≡ both (zeros (drop n (take 32 (drop 15 s)))) (eqb (get_or s 47 0) 0)
unfolding zeros
zeros_past s n e h =
    let m : n + 15 ≡ 15 + n = omega arith in
    let body : List ℕ = take 32 (drop 15 s) in
    let last : drop 47 s ≡ get_or s 47 0 ∷ [] =
    drop-cons s 47 0 (omega arith) ∙ ap (λ (l : List ℕ). get_or s 47 0 ∷ l) (drop_of_length-le s {i = 48} (omega arith)) in
    let lb : length body ≡ 32 = length-take-le 32 (drop 15 s) (omega (arith, length-drop 15 s)) in
    let parts : drop 15 s ≡ body ++ (get_or s 47 0 ∷ []) = sym (take-append-drop 32 (drop 15 s)) ∙ ap (λ (l : List ℕ). body ++ l) (drop-drop 32 15 s ∙ last) in
    let d : drop (n + 15) s ≡ drop n body ++ (get_or s 47 0 ∷ []) =
    ap (λ (k : ℕ). drop k s) m ∙ sym (drop-drop n 15 s) ∙ ap (drop n) parts ∙ drop-append-le n body (get_or s 47 0 ∷ []) (omega arith) in
    ap zeros d ∙ zeros_append (drop n body) (get_or s 47 0 ∷ []) ∙ ap (both (zeros (drop n body))) (both_true (eqb (get_or s 47 0) 0))

pub region_length : (n o : ℕ) → good_region n o ≡ true → n ≤ 32
unfolding good_region
region_length n o e = go (leb n 32) refl
  where
    go : (b : Bool) → leb n 32 ≡ b → n ≤ 32
    go true q = leb-true n 32 q
    go false q = let f : false ≡ true = rw q at e in absurd cc

-- past a region that fits, the walk is the two tests
past_region : (s : List ℕ) (n o : ℕ) (x : Bool) → length s ≡ 48
    → both (good_region n o) (both (zeros (drop n (take 32 (drop 15 s)))) (both (eqb (get_or s 47 0) 0) x)) ≡
    both (good_region n o) (both (zeros (drop (n + 15) s)) x)
past_region s n o x l = go (good_region n o) refl
  where
    go : (b : Bool) → good_region n o ≡ b
        → both b (both (zeros (drop n (take 32 (drop 15 s)))) (both (eqb (get_or s 47 0) 0) x)) ≡ both b (both (zeros (drop (n + 15) s)) x)
    go true e =
        sym (both_assoc (zeros (drop n (take 32 (drop 15 s)))) (eqb (get_or s 47 0) 0) x)
        ∙ ap (λ (b : Bool). both b x) (sym (zeros_past s n l (region_length n o e)))
    go false e = refl

-- five tests in a row, the first four as one
regroup : (a b c d e : Bool) → both a (both b (both c (both d e))) ≡ both (both (both (both a b) c) d) e
regroup false b c d e = refl
regroup true false c d e = refl
regroup true true false d e = refl
regroup true true true d e = refl

pub good_walked : (s : List ℕ) (r : Reply) → length s ≡ 48 → r ≡ reply_of s → good_reply s ≡ both (leb r.outcome 14) (after_outcome s r)
unfolding good_reply reply_of
good_walked s r l e = rw (e, past_region s (get_or s 10 0) (num (take 4 (drop 11 s))) _ l)

-- the same, the tests before the last as one
pub good_told : (s : List ℕ) (r : Reply) → length s ≡ 48 → r ≡ reply_of s
    → good_reply s ≡ both (both (both (both (leb r.outcome 14) (good_register r.register r.value)) (good_region r.length r.offset)) (zeros (drop (r.length + 15) s))) (after_zeros s r)
good_told s r l e = good_walked s r l e ∙ regroup (leb r.outcome 14) _ _ _ _

-- a row's fields, as they are read
pub parsed : (s b : List ℕ) (v o : ℕ) → v ≡ num (take 8 (drop 2 s)) → o ≡ num (take 4 (drop 11 s)) → b ≡ take 32 (drop 15 s)
    → record { outcome = get_or s 0 0; register = get_or s 1 0; value = v; length = get_or s 10 0; offset = o; bytes = b } ≡ reply_of s
unfolding reply_of
parsed s b v o pv po pb =
    λ i. record { outcome = get_or s 0 0; register = get_or s 1 0; value = pv i; length = get_or s 10 0; offset = po i; bytes = pb i }
