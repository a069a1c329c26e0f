-- Quotients by scaled divisors and by their upper parts. Assumes nothing.
use mathlib.Core.Path.{◌≡◌, sym, ap, ◌∙◌}
use Prim.Native.Nat.{ℕ, suc, ◌+◌, ◌*◌, ◌-◌, ◌/◌, ◌%◌, ◌^◌, ◌≤◌, ◌<◌}
use native.Mathlib.Omega.{arith}
use native.Mathlib.Nat.{le_refl, le_trans, le_of_eq, lt_of_lt_of_le, add-lt-add_of_le_of_lt, zero-add, add-zero, lt_of_mul-lt-mul_right, le-div_iff_mul-le}
use native.Mathlib.Nat.{mul-mod_left, one-mul, mul_assoc, suc-mul, mul-pos, mul-le-mul_left, mul-le-mul_right, mul-lt-mul_of_pos_right}
use native.Mathlib.Nat.{mul-div-le, mul-div-mul_right, mod-eq_of_lt, mod-lt, div-mul-le_self, div-lt_iff_lt-mul, div-add-mod', div-div-eq-div-mul}
use lib.Arith.{digits_div}
use lib.Pow.{pow_pos, pow-add, split, shr-shr, shl-shr, mod-pow-add}
use lib.Count.{count_leading_zeros, leading_top}
use Rattle.words.specs.declared.product.Wide.{Wide}
use Rattle.words.specs.Wide.{wide, Divides}
use Rattle.words.specs.WideLaws.{quotient}
use Rattle.words.proofs.Words.{Estimate, digits_mul, upper_word, lower_word}

-- a quotient of upper parts is not below the quotient
coarser : (n d b : ℕ) → 0 < b → 0 < d / b → n / d ≤ n / b / (d / b)
coarser n d b pb pd =
    rw (div-div-eq-div-mul n b (d / b))
    ((le-div_iff_mul-le {k = b * (d / b)} {x = n / d} {y = n} (mul-pos pb pd)).1 (le_trans (mul-le-mul_left (n / d) (mul-div-le d b)) (div-mul-le_self n d)))

-- a dividend below k times the divisor has a quotient below k
below : (n d q r k : ℕ) → Divides n d q r → n < k * d → q < k
below n d q r k h lt = rw (quotient n d q r h) ((div-lt_iff_lt-mul {k = d} {x = n} {y = k} (omega (arith, h.1))).1 lt)

-- a number of two words whose upper word is 0, or that one word holds, is its lower word
pub no_upper : (w : Wide) → w.hi ≡ 0 → wide w ≡ w.lo
no_upper w e = omega arith

one_word : (w : Wide) → wide w < 2 ^ 64 → wide w ≡ w.lo
one_word w h = no_upper w (omega arith)

-- by one word: an estimate is any number not below the quotient
pub by_one : (n : Wide) (v e : ℕ) → 0 < v → wide n / v ≤ e → Estimate n (record { hi = 0; lo = v }) e
by_one n v e pos le = rw (zero-add v) (pos, le, omega arith)

-- the number that a digit divides
rejoined : (rest next : ℕ) → rest / 2 ^ 32 * 2 ^ 64 + (rest % 2 ^ 32 * 2 ^ 32 + next) ≡ rest * 2 ^ 32 + next
rejoined rest next = omega arith

pub digit_estimate : (rest next v : ℕ) → 2 ^ 32 ≤ v → next < 2 ^ 32
    → Estimate (record { hi = rest / 2 ^ 32; lo = rest % 2 ^ 32 * 2 ^ 32 + next }) (record { hi = 0; lo = v }) (rest / (v / 2 ^ 32))
digit_estimate rest next v h w =
    let k : (rest * 2 ^ 32 + next) / v ≤ (rest * 2 ^ 32 + next) / 2 ^ 32 / (v / 2 ^ 32) =
    coarser (rest * 2 ^ 32 + next) v (2 ^ 32) (omega arith) (omega arith) in
    by_one (record { hi = rest / 2 ^ 32; lo = rest % 2 ^ 32 * 2 ^ 32 + next }) v (rest / (v / 2 ^ 32)) (omega arith)
    (rw (rejoined rest next) (rw (digits_div rest w) at k))

pub digit_ends : (rest next v : ℕ) (q r : Wide) → rest < v → v < 2 ^ 64 → next < 2 ^ 32
    → Divides (rest / 2 ^ 32 * 2 ^ 64 + (rest % 2 ^ 32 * 2 ^ 32 + next)) (0 * 2 ^ 64 + v) (wide q) (wide r)
    → (Divides (rest * 2 ^ 32 + next) v q.lo r.lo) × (q.lo < 2 ^ 32)
digit_ends rest next v q r l f w h =
    let d : Divides (rest * 2 ^ 32 + next) v (wide q) (wide r) = rw (rejoined rest next, zero-add v) at h in
    let b : wide q < 2 ^ 32 = below (rest * 2 ^ 32 + next) v (wide q) (wide r) (2 ^ 32) d (omega arith) in
    rw (← one_word q (omega arith), ← one_word r (omega (arith, d.1))) (d, b)

-- ---- powers of two as factors

power : (j s k : ℕ) → j + s ≡ k → 2 ^ j * 2 ^ s ≡ 2 ^ k
power j s k e = sym (pow-add 2 j s) ∙ ap (λ (k : ℕ). 2 ^ k) e

-- x * 2^s in two words, the lower of which leaves room for what is below 2^s
pub shifted_words : (x s : ℕ) → s < 64 → x / 2 / 2 ^ (63 - s) * 2 ^ 64 + x * 2 ^ s % 2 ^ 64 ≡ x * 2 ^ s
shifted_words x s h =
    let k : ℕ = 1 + (63 - s) in
    let e : x / 2 ^ 1 / 2 ^ (63 - s) ≡ x / 2 ^ k = shr-shr x 1 (63 - s) in
    let q : x * 2 ^ s / 2 ^ 64 ≡ x / 2 ^ k = rw (power k s 64 (omega arith)) at (mul-div-mul_right x (2 ^ k) (pow_pos s)) in
    rw (e, ← q) (split (x * 2 ^ s) 64)

lower_room : (x s : ℕ) → s < 64 → x * 2 ^ s % 2 ^ 64 + 2 ^ s ≤ 2 ^ 64
lower_room x s h =
    let j : ℕ = 64 - s in
    let e : j + s ≡ 64 = omega arith in
    let d : x * 2 ^ s % 2 ^ (j + s) ≡ x % 2 ^ j * 2 ^ s =
    mod-pow-add (x * 2 ^ s) j s ∙ rw (shl-shr x s, mul-mod_left x (2 ^ s)) (add-zero (x % 2 ^ j * 2 ^ s)) in
    let u : suc (x % 2 ^ j) * 2 ^ s ≤ 2 ^ j * 2 ^ s = mul-le-mul_right (2 ^ s) (mod-lt x (pow_pos j)) in
    rw (rw e at d) (rw (suc-mul (x % 2 ^ j) (2 ^ s), power j s 64 e) at u)

-- the power by which a word comes to the upper half of a word's range
pub normal : (h : ℕ) → 0 < h → h < 2 ^ 64 → let s = count_leading_zeros 64 h in (s < 64) × (2 ^ 63 ≤ h * 2 ^ s) × (h * 2 ^ s + 2 ^ s ≤ 2 ^ 64)
normal h pos f =
    let s : ℕ = count_leading_zeros 64 h in
    let t = leading_top 64 h pos f in
    let low : 2 ^ t.0 * 2 ^ s ≤ h * 2 ^ s = mul-le-mul_right (2 ^ s) t.2 in
    let up : suc h * 2 ^ s ≤ 2 ^ suc t.0 * 2 ^ s = mul-le-mul_right (2 ^ s) t.3 in
    (omega (arith, t.1), rw (power t.0 s 63 (omega (arith, t.1))) at low, rw (suc-mul h (2 ^ s), power (suc t.0) s 64 (omega (arith, t.1))) at up)

-- a number of two words times a word, whose product with the lower word is p
times : (h l m : ℕ) (p : Wide) → wide p ≡ l * m → (h * 2 ^ 64 + l) * m ≡ (h * m + p.hi) * 2 ^ 64 + p.lo
times h l m p e = omega (arith, digits_mul h (2 ^ 64) l m)

-- the upper word of a word's multiple is below the factor
carry : (l m : ℕ) (p : Wide) → l < 2 ^ 64 → 0 < m → wide p ≡ l * m → p.hi < m
carry l m p w pos e = let a : l * m < 2 ^ 64 * m = mul-lt-mul_of_pos_right w pos in omega arith

-- the upper two of the three words of n * 2^s: those of the upper word's multiple q, and what the lower word's multiple p carries
pub upper_fits : (l k s : ℕ) (p q : Wide) → s < 64 → l < 2 ^ 64 → q.lo < 2 ^ 64 → wide p ≡ l * 2 ^ s → wide q ≡ k * 2 ^ s → q.lo + p.hi < 2 ^ 64
upper_fits l k s p q h f w ep eq =
    lt_of_lt_of_le (add-lt-add_of_le_of_lt (le_refl q.lo) (carry l (2 ^ s) p f (pow_pos s) ep))
    (rw (lower_word q.hi q.lo (k * 2 ^ s) w eq) (lower_room k s h))

pub upper_words : (n : Wide) (m : ℕ) (p q : Wide) → p.lo < 2 ^ 64 → wide p ≡ n.lo * m → wide q ≡ n.hi * m
    → q.hi * 2 ^ 64 + (q.lo + p.hi) ≡ wide n * m / 2 ^ 64
upper_words n m p q w ep eq =
    let e : q.hi * 2 ^ 64 + (q.lo + p.hi) ≡ n.hi * m + p.hi = omega arith in
    e ∙ upper_word (n.hi * m + p.hi) p.lo (wide n * m) w (sym (times n.hi n.lo m p ep))

pub top_below : (h l v m : ℕ) (p : Wide) → h < v → l < 2 ^ 64 → 0 < m → wide p ≡ l * m → h * m + p.hi < v * m
top_below h l v m p lt w pos e =
    let b : suc h * m ≤ v * m = mul-le-mul_right m lt in
    omega (arith, suc-mul h m, carry l m p w pos e)

-- what of two words and their divisor fits a word when they are scaled by the divisor's power
pub record Scaled (h v m : ℕ) (p : Wide) : Type 0 where
  pub upper : h * m % 2 ^ 64 ≡ h * m
  pub divisor : v * m % 2 ^ 64 ≡ v * m
  pub large : 2 ^ 32 ≤ v * m
  pub top : h * m + p.hi < v * m
  pub fits : v * m < 2 ^ 64

pub scaled : (h l v : ℕ) (p : Wide) → h < v → l < 2 ^ 64 → v < 2 ^ 64 → wide p ≡ l * 2 ^ count_leading_zeros 64 v → Scaled h v (2 ^ count_leading_zeros 64 v) p
scaled h l v p lt w f e =
    let m : ℕ = 2 ^ count_leading_zeros 64 v in
    let pos : 0 < m = pow_pos (count_leading_zeros 64 v) in
    let n = normal v (omega arith) f in
    let t : h * m + p.hi < v * m = top_below h l v m p lt w pos e in
    let d : v * m < 2 ^ 64 = omega (arith, n.2, pos) in
    record { upper = mod-eq_of_lt (omega arith); divisor = mod-eq_of_lt d; large = omega (arith, n.1); top = t; fits = d }

pub scaled_quotient : (h l v m : ℕ) (p : Wide) → 0 < m → wide p ≡ l * m → ((h * m + p.hi) * 2 ^ 64 + p.lo) / (v * m) ≡ (h * 2 ^ 64 + l) / v
scaled_quotient h l v m p pos e = rw (← times h l m p e) (mul-div-mul_right (h * 2 ^ 64 + l) v pos)

-- two digits give the quotient
pub two_digits : (h l v a b r s : ℕ) → Divides (h * 2 ^ 32 + l / 2 ^ 32) v a r → Divides (r * 2 ^ 32 + l % 2 ^ 32) v b s → a * 2 ^ 32 + b ≡ (h * 2 ^ 64 + l) / v
two_digits h l v a b r s x y =
    let n : h * 2 ^ 64 + l ≡ (a * 2 ^ 32 + b) * v + s = omega (arith, digits_mul a (2 ^ 32) b v, x.0, y.0) in
    quotient (h * 2 ^ 64 + l) v (a * 2 ^ 32 + b) s (n, y.1)

-- long division by a word: the upper word's quotient, then that of what it leaves and the lower word
pub long_division : (n : Wide) (d : ℕ) (q r : Wide) → 0 < d → n.lo < 2 ^ 64
    → Divides (n.hi % d * 2 ^ 64 + n.lo) (0 * 2 ^ 64 + d) (wide q) (wide r)
    → Divides (wide n) d (n.hi / d * 2 ^ 64 + q.lo) (wide r)
long_division n d q r pos w h =
    let x : Divides (n.hi % d * 2 ^ 64 + n.lo) d (wide q) (wide r) = rw (zero-add d) at h in
    let b : wide q < 2 ^ 64 = below (n.hi % d * 2 ^ 64 + n.lo) d (wide q) (wide r) (2 ^ 64) x (omega (arith, mod-lt n.hi pos)) in
    let k : n.hi / d * d + n.hi % d ≡ n.hi = div-add-mod' n.hi d in
    rw (← one_word q b) (omega (arith, digits_mul (n.hi / d) (2 ^ 64) (wide q) d, x.0), x.1)

-- the upper words of w * m lie between the multiples of w's upper word and of one more
between : (w : Wide) (m t : ℕ) → w.lo < 2 ^ 64 → 0 < m → t ≡ wide w * m / 2 ^ 64 → (w.hi * m ≤ t) × (t < w.hi * m + m)
between w m t f pos e =
    let a : w.lo * m < 2 ^ 64 * m = mul-lt-mul_of_pos_right f pos in
    rw (e, digits_mul w.hi (2 ^ 64) w.lo m) (
      (le-div_iff_mul-le {k = 2 ^ 64} {x = w.hi * m} {y = w.hi * m * 2 ^ 64 + w.lo * m} (omega arith)).1 (omega arith),
      (div-lt_iff_lt-mul {k = 2 ^ 64} {x = w.hi * m * 2 ^ 64 + w.lo * m} {y = w.hi * m + m} (omega arith)).1 (omega arith),
    )

-- their quotient fits a word
below_divisor : (h m v : ℕ) (u : Wide) → h < 2 ^ 64 → wide u < h * m + m → m ≤ v → u.hi < v
below_divisor h m v u f b k = let w : suc h * m ≤ 2 ^ 64 * m = mul-le-mul_right m f in omega (arith, suc-mul h m)

-- and it is an estimate: its product with the divisor's upper word is under n's
under : (h m v u k : ℕ) → h * m ≤ v → u < k * m + m → u / v * h ≤ k
under h m v u k a b =
    let e : ℕ = u / v in
    let c : e * h * m ≤ u = le_trans (le_of_eq (mul_assoc e h m)) (le_trans (mul-le-mul_left e a) (div-mul-le_self u v)) in
    let d : e * h < suc k = lt_of_mul-lt-mul_right m {m = e * h} {n = suc k} (omega (arith, suc-mul k m)) in
    omega (arith, d)

pub by_upper : (n d u v : Wide) → 0 < d.hi → d.hi < 2 ^ 64 → d.lo < 2 ^ 64 → n.hi < 2 ^ 64 → n.lo < 2 ^ 64 → let m = 2 ^ count_leading_zeros 64 d.hi in
    wide u ≡ wide n * m / 2 ^ 64 → wide v ≡ wide d * m / 2 ^ 64 → (2 ^ 32 ≤ v.lo) × (u.hi < v.lo) × (Estimate n d (wide u / v.lo))
by_upper n d u v pos dh dl nh nl eu ev =
    let m : ℕ = 2 ^ count_leading_zeros 64 d.hi in
    let s = normal d.hi pos dh in
    let some : 0 < m = pow_pos (count_leading_zeros 64 d.hi) in
    let bv = between d m (wide v) dl some ev in
    let bu = between n m (wide u) nl some eu in
    let one : wide v ≡ v.lo = one_word v (lt_of_lt_of_le bv.1 s.2) in
    let large : 2 ^ 63 ≤ wide v = le_trans s.1 bv.0 in
    let least : m ≤ wide v = le_trans (rw (one-mul m) at (mul-le-mul_right m pos)) bv.0 in
    let q : wide n / wide d ≤ wide u / wide v =
    rw (← mul-div-mul_right (wide n) (wide d) some, eu, ev) (coarser (wide n * m) (wide d * m) (2 ^ 64) (omega arith) (rw ev at (lt_of_lt_of_le some least))) in
    rw (← one) (
      le_trans (omega arith) large,
      below_divisor n.hi m (wide v) u nh bu.1 least,
      (omega (arith, pos), q, under d.hi m (wide v) (wide u) n.hi bv.0 bu.1),
    )
