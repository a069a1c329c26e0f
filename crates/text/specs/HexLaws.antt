-- Bytes laid down in hexadecimal, two digits a turn. Assumes nothing.
use Rattle.std.specs.Prelude.{◌≡◌, refl, List, [], ◌∷◌, ℕ, zero, suc, ◌+◌, ◌*◌, ◌/◌, ◌%◌, ◌≤◌, ◌<◌, length, get_or, set}
use Rattle.std.proofs.Common.{sym, ap, ◌∙◌, arith}
use Rattle.std.proofs.Math.Seq.{paste}
use Rattle.words.specs.BytesLaws.{copy_turn}
use Rattle.text.specs.Hex.{digit_of, hex_of}

pub length_hex : (s : List ℕ) → length (hex_of s) ≡ length s * 2
unfolding hex_of
length_hex [] = refl
length_hex (x ∷ s) = omega (arith, length_hex s)

-- byte i's digits stand at 2i and behind it
digits_at : (s : List ℕ) (i : ℕ) → i < length s →
    (get_or (hex_of s) (i * 2) 0 ≡ digit_of (get_or s i 0 / 16)) × (get_or (hex_of s) (i * 2 + 1) 0 ≡ digit_of (get_or s i 0 % 16))
unfolding hex_of
digits_at [] i h = absurd (omega arith)
digits_at (x ∷ s) zero h = (refl, refl)
digits_at (x ∷ s) (suc i) h =
    let (a, b) = digits_at s i (omega arith) in
    let e : suc i * 2 ≡ suc (suc (i * 2)) = omega arith in
    let f : suc i * 2 + 1 ≡ suc (suc (i * 2 + 1)) = omega arith in
    (ap (λ (k : ℕ). get_or (hex_of (x ∷ s)) k 0) e ∙ a, ap (λ (k : ℕ). get_or (hex_of (x ∷ s)) k 0) f ∙ b)

pub hex_turn : (d t s : List ℕ) (at i a b : ℕ) → at + length s * 2 ≤ length d → i < length s →
    a ≡ digit_of (get_or s i 0 / 16) → b ≡ digit_of (get_or s i 0 % 16) →
    t ≡ paste d at (hex_of s) (i * 2) → set (set t (at + i * 2) a) (at + i * 2 + 1) b ≡ paste d at (hex_of s) ((i + 1) * 2)
hex_turn d t s at i a b h l p q e =
    let (x, y) = digits_at s i l in
    let n = length_hex s in
    let one : set t (at + i * 2) a ≡ paste d at (hex_of s) (i * 2 + 1) =
    ap (set t (at + i * 2)) (p ∙ sym x) ∙ copy_turn d t (hex_of s) at (i * 2) (omega arith) (omega arith) e in
    let j : at + i * 2 + 1 ≡ at + (i * 2 + 1) = omega arith in
    let k : i * 2 + 1 + 1 ≡ (i + 1) * 2 = omega arith in
    (λ m. set (set t (at + i * 2) a) (j m) ((q ∙ sym y) m)) ∙
    copy_turn d (set t (at + i * 2) a) (hex_of s) at (i * 2 + 1) (omega arith) (omega arith) one ∙ ap (paste d at (hex_of s)) k
