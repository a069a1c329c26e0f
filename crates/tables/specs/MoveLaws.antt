-- What the loop that moves bytes up does in a turn. Assumes nothing.
use Rattle.std.specs.Prelude.{◌≡◌, List, [], ◌∷◌, ◌++◌, ℕ, suc, ◌+◌, ◌-◌, ◌≤◌, ◌<◌, length, take, drop, get_or, set}
use Rattle.std.proofs.Common.{sym, ap, ◌∙◌, arith, length-append, drop-cons, get_or-take, take-suc-set, length-take-le}
use Rattle.std.proofs.Math.ListN.{get_or-append}
use Rattle.std.proofs.Math.Seq.{paste, take-set-lt, append_snoc}
use Rattle.std.proofs.lemmas.List.{set-append_left}

-- a store just below what was put in puts in one more
paste_down : (d s : List ℕ) (at n x : ℕ) → at < length d → set (paste d (suc at) s n) at x ≡ paste d at (x ∷ s) (suc n)
paste_down d s at n x h =
    let l : length (take (suc at) d) ≡ suc at = length-take-le (suc at) d h in
    let m : at < length (take (suc at) d ++ take n s) = omega (arith, length-append (take (suc at) d) (take n s)) in
    let one : set (take (suc at) d) at x ≡ take at d ++ (x ∷ []) = sym (take-set-lt (suc at) d at x (omega arith)) ∙ take-suc-set d at x h in
    let k : suc at + n ≡ at + suc n = omega arith in
    set-append_left (take (suc at) d ++ take n s) (drop (suc at + n) d) at x m
    ∙ ap (λ (l : List ℕ). l ++ drop (suc at + n) d)
    (set-append_left (take (suc at) d) (take n s) at x (omega arith) ∙ ap (λ (l : List ℕ). l ++ take n s) one ∙ append_snoc (take at d) x (take n s))
    ∙ ap (λ (j : ℕ). take at d ++ x ∷ take n s ++ drop j d) k

-- below what was put in nothing has changed
paste_before : (d s : List ℕ) (at n j : ℕ) → j < at → at ≤ length d → get_or (paste d at s n) j 0 ≡ get_or d j 0
paste_before d s at n j h k =
    let l : length (take at d) ≡ at = length-take-le at d k in
    get_or-append (take at d ++ take n s) (drop (at + n) d) 0 j (omega (arith, length-append (take at d) (take n s)))
    ∙ get_or-append (take at d) (take n s) 0 j (omega arith)
    ∙ get_or-take at d j 0 h

-- a turn of the loop that moves up, the last byte first
pub shift_turn : (d t : List ℕ) (i j to by : ℕ) → i ≡ suc j → i ≤ to → to + by ≤ length d
    → t ≡ paste d (i + by) (drop i d) (to - i)
    → set t (j + by) (get_or t j 0) ≡ paste d (j + by) (drop j d) (to - j)
shift_turn d t i j to by e h k p =
    let g : get_or t j 0 ≡ get_or d j 0 = ap (λ (l : List ℕ). get_or l j 0) p ∙ paste_before d (drop i d) (i + by) (to - i) j (omega arith) (omega arith) in
    let q : i + by ≡ suc (j + by) = omega arith in
    let r : to - j ≡ suc (to - i) = omega arith in
    let jd : j < length d = omega arith in
    ap (λ (l : List ℕ). set l (j + by) (get_or t j 0))
    (p ∙ ap (λ (m : ℕ). paste d m (drop i d) (to - i)) q ∙ ap (λ (m : ℕ). paste d (suc (j + by)) (drop m d) (to - i)) e)
    ∙ ap (set (paste d (suc (j + by)) (drop (suc j) d) (to - i)) (j + by)) g
    ∙ paste_down d (drop (suc j) d) (j + by) (to - i) (get_or d j 0) (omega arith)
    ∙ ap (λ (l : List ℕ). paste d (j + by) l (suc (to - i))) (sym (drop-cons d j 0 jd))
    ∙ ap (paste d (j + by) (drop j d)) (sym r)

-- the loop is done
pub shift_all : (d t : List ℕ) (i from to by : ℕ) → i ≡ from → t ≡ paste d (i + by) (drop i d) (to - i) → t ≡ paste d (from + by) (drop from d) (to - from)
shift_all d t i from to by e p = p ∙ ap (λ (m : ℕ). paste d (m + by) (drop m d) (to - m)) e
