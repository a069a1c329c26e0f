-- An effect's line from its pieces, and from what the newest record tells. Assumes nothing.
use Rattle.std.specs.Int.{to_be_bytes}
use Rattle.std.proofs.Math.Nat.{div-div-eq-div-mul}
use Rattle.std.specs.Prelude.{◌≡◌, refl, true, ℕ, ◌+◌, ◌*◌, ◌/◌, ◌≤◌, ◌<◌, leb, length, drop}
use Rattle.std.proofs.Math.Path.{ap, subst}
use Rattle.std.proofs.Common.{◌∙◌, arith, w64, length-drop, length-take-le}
use mathlib.Core.List.{List, [], ◌∷◌}
use Rattle.std.proofs.Math.ListN.{take}
use Rattle.std.proofs.Math.Seq.{paste-zero}
use borrow.Author.Tests.{le-leb, lt-leb, eq-eqb, ne_eqb}
use Rattle.words.specs.Laid.{Laid}
use Rattle.words.specs.Bytes.{be_bytes}
use Rattle.words.specs.BytesLaws.{length_be_bytes}
use Rattle.text.specs.Decimal.{field_of}
use Rattle.text.specs.LaidLaws.{field_room, laid_next}
use Rattle.effects.specs.Log.{Effect, FitTrailers, log_of}
use Rattle.effects.specs.LogLaws.{newest}
use Rattle.effects.specs.Trailers.{trailer_of, EndingAt}
use Rattle.effects.specs.declared.trailer.Trailer.{Trailer}
use Rattle.text.specs.Ascii.{ascii}
use Rattle.text.specs.Hex.{hex_of}
use Rattle.text.specs.HexLaws.{length_hex}
use Rattle.lines.specs.EffectLines.{transfer_line, selector_of, event_line, effect_line, line_within}

pub transfer_laid : (d t u v s : List ℕ) (n p q r : ℕ) → length s * 2 + 80 ≤ length d → Laid d 0 (field_of (ascii "transfer ") n) t p →
    Laid t p (ascii " to ") u q → Laid u q (hex_of s) v r → Laid d 0 (transfer_line n s) v r
unfolding transfer_line ascii
transfer_laid d t u v s n p q r h x y z =
    let second : q ≤ 33 = omega (arith, field_room d t (ascii "transfer ") 0 n p x, y.end) in
    laid_next (omega (arith, z.end, length_hex s)) (laid_next (omega arith) x y) z

-- a selector takes eight digits
pub length_selector : (word : ℕ) → length (hex_of (selector_of word)) ≡ 8
unfolding selector_of
length_selector word = omega (arith, length_hex (selector_of word), length_be_bytes 4 (word / 4294967296))

pub event_laid : (d t u v w x s : List ℕ) (word a b c e r : ℕ) → length s * 2 + 80 ≤ length d →
    Laid d 0 (ascii "event ") t a → Laid t a (hex_of (selector_of word)) u b → Laid u b (field_of (ascii " length ") (length s)) v c →
    Laid v c (ascii " data ") w e → Laid w e (hex_of s) x r → Laid d 0 (event_line word s) x r
unfolding event_line ascii
event_laid d t u v w x s word a b c e r h i j k l m =
    let second : b ≡ 14 = omega (arith, i.end, j.end, length_selector word) in
    let third : c ≤ 42 = omega (arith, field_room u v (ascii " length ") b (length s) c k) in
    let fourth : e ≤ 48 = omega (arith, l.end) in
    let two = laid_next (omega arith) i j in
    laid_next (omega (arith, m.end, length_hex s)) (laid_next (omega arith) (laid_next (omega arith) two k) l) m

-- the first four of a word's bytes
pub first_four : (word : ℕ) → take 4 (to_be_bytes w64 word) ≡ selector_of word
unfolding selector_of be_bytes
first_four word = simp div-div-eq-div-mul refl

-- the bytes between two places of a log
pub part_length : (log : List ℕ) (from n m : ℕ) → m ≡ n → from + n ≤ length log → length (take m (drop from log)) ≡ n
part_length log from n m e h =
    ap (λ (k : ℕ). length (take k (drop from log))) e ∙ length-take-le n (drop from log) (omega (arith, length-drop from log))

module _ (d log : List ℕ) (at : ℕ) (t : Trailer) (l : at ≤ length log) (b : EndingAt log at t) where
  -- of the newest effect, whatever effects the first bytes are the log of
  abbrev pub OfNewest : (Effect → Type 0) → Type 0
  OfNewest P = (e : Effect) (es : List Effect) → FitTrailers (e ∷ es) → take at log ≡ log_of (e ∷ es) → P e

  abbrev bytes : List ℕ
  bytes = take t.length (drop t.from log)

  -- what a record's trailer and its bytes give, its effect gives
  as_told : (P : Effect → Type 0) → P (record { kind = t.kind; word = t.word; bytes = bytes }) → OfNewest P
  unfolding trailer_of
  as_told P x e es s q =
      let is = b.told e es s q in
      let same : bytes ≡ e.bytes =
      ap (λ (u : Trailer). take u.length (drop u.from log)) is ∙ (newest log at e es l s q).bytes in
      subst P (λ i. record { kind = (is i).kind; word = (is i).word; bytes = same i }) x

  size : length bytes ≡ t.length
  size = part_length log t.from t.length t.length refl (omega (arith, b.within))

  -- the line of an effect stands at the front of u, which was d, and ends at r
  abbrev pub LineLaid : List ℕ → ℕ → Effect → Type 0
  LineLaid u r e = Laid d 0 (line_within (length d) e) u r

  pub line_short : length d < t.length * 2 + 80 → OfNewest (LineLaid d 0)
  unfolding line_within
  line_short h = as_told (LineLaid d 0) (rw (size, lt-leb (t.length * 2 + 80) (length d) h) (record { end = refl; is = paste-zero d 0 [] }))

  module _ (u : List ℕ) (m r : ℕ) (n : m ≡ t.length) (h : t.length * 2 + 80 ≤ length d) where
    fits : leb (length bytes * 2 + 80) (length d) ≡ true
    fits = le-leb _ (length d) (omega (arith, size))

    pub line_transfer : t.kind ≡ 0 → Laid d 0 (transfer_line t.word (take m (drop t.from log))) u r → OfNewest (LineLaid u r)
    unfolding line_within effect_line
    line_transfer k x = as_told (LineLaid u r) (rw (fits, eq-eqb t.kind 0 k, ← n) x)

    pub line_event : (t.kind ≡ 0 → ⊥) → Laid d 0 (event_line t.word (take m (drop t.from log))) u r → OfNewest (LineLaid u r)
    unfolding line_within effect_line
    line_event k x = as_told (LineLaid u r) (rw (fits, ne_eqb t.kind 0 k, ← n) x)
