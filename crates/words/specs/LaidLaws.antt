-- What is laid: a number's bytes, and pieces one after the other. Assumes nothing.
use Rattle.std.specs.Prelude.{◌≡◌, List, ◌++◌, ℕ, ◌+◌, ◌≤◌, length}
use Rattle.std.proofs.Common.{sym, ap, ◌∙◌, arith, length-append}
use Rattle.std.proofs.Math.Seq.{paste}
use Rattle.words.specs.Bytes.{be_bytes}
use Rattle.words.specs.BytesLaws.{length_be_bytes, paste_paste}
use Rattle.words.specs.Laid.{Laid}

pub laid_number : (d u : List ℕ) (at w v : ℕ) → u ≡ paste d at (be_bytes w v) w → Laid d at (be_bytes w v) u (at + w)
laid_number d u at w v p =
    let k = length_be_bytes w v in
    record { end = omega (arith, k); is = p ∙ ap (paste d at (be_bytes w v)) (sym k) }

-- pieces one after the other are one piece
pub laid_then : (d a b u v : List ℕ) (at r s : ℕ) → at + length a + length b ≤ length d → Laid d at a u r → Laid u r b v s → Laid d at (a ++ b) v s
laid_then d a b u v at r s h x y = record {
  end = omega (arith, x.end, y.end, length-append a b);
  is = paste_paste d u v a b at h x.is (y.is ∙ ap (λ (k : ℕ). paste u k b (length b)) x.end);
}
