-- A fault row changes nothing, and a check of replies accepts exactly whole good rows. Assumes nothing.
use Rattle.std.proofs.Math.Path.{◌≡◌, ap}
use Rattle.std.specs.Prelude.{refl, Bool, true, ℕ, ◌+◌, take, leb, eqb, Some, None}
use Rattle.std.proofs.Common.{sym, ◌∙◌, arith, drop-drop, get_or-drop}
use mathlib.Core.List.{List, [], ◌∷◌}
use Rattle.std.proofs.Math.ListN.{length, drop, get_or, replicate, length-drop}
use borrow.Author.Tests.{eqb-true, ne_eqb}
use Rattle.words.specs.Bytes.{num, num_from}
use Rattle.words.specs.Choice.{both}
use Rattle.words.specs.ChoiceLaws.{both_left, both_right}
use Rattle.replies.specs.Reply.{reply_of, zeros, good_register, good_region, good_reply}
use Rattle.replies.specs.Replies.{good_replies, WholeReplies, replies_of}
use Rattle.replies.specs.Walks.{after_outcome, after_register, after_region, after_zeros}
use Rattle.replies.specs.ReplyLaws.{good_walked}
use Rattle.words.specs.WholeLaws.{whole_counted, counted_whole, else_refused}

-- zeroes are nothing but zeroes
zeros_are : (xs : List ℕ) → zeros xs ≡ true → xs ≡ replicate (length xs) 0
unfolding zeros
zeros_are [] e = refl
zeros_are (x ∷ xs) e =
    let h : x ≡ 0 = eqb-true x 0 (both_left (eqb x 0) (zeros xs) e) in
    let t = zeros_are xs (both_right (eqb x 0) (zeros xs) e) in
    λ i. h i ∷ t i

module _ (s : List ℕ) (l : length s ≡ 48) (g : good_reply s ≡ true) (fault : (reply_of s).outcome ≡ 0 → ⊥) where
  -- what the last test of a good row says of a fault
  last : both (eqb (reply_of s).register 255) (zeros (drop 2 s)) ≡ true
  last =
      let r = reply_of s in
      let first = sym (good_walked s r l refl) ∙ g in
      let second = both_right (leb r.outcome 14) (after_outcome s r) first in
      let third = both_right (good_register r.register r.value) (after_register s r) second in
      let fourth = both_right (good_region r.length r.offset) (after_region s r) third in
      rw (ne_eqb r.outcome 0 fault) at (both_right (zeros (drop (r.length + 15) s)) (after_zeros s r) fourth)

  -- a fault row has register 255, and everything after it is zero
  pub fault_silent : reply_of s ≡ record { outcome = get_or s 0 0; register = 255; value = 0; length = 0; offset = 0; bytes = replicate 32 0 }
  unfolding reply_of num num_from
  fault_silent =
      let q : get_or s 1 0 ≡ 255 = eqb-true (get_or s 1 0) 255 (both_left _ (zeros (drop 2 s)) last) in
      let m : length (drop 2 s) ≡ 46 = omega (arith, length-drop 2 s) in
      let d : drop 2 s ≡ replicate 46 0 = zeros_are (drop 2 s) (both_right (eqb (get_or s 1 0) 255) (zeros (drop 2 s)) last) ∙ ap (λ (n : ℕ). replicate n 0) m in
      λ i. record {
        outcome = get_or s 0 0;
        register = q i;
        value = num (take 8 (d i));
        length = (sym (get_or-drop 2 s 8 0) ∙ ap (λ (x : List ℕ). get_or x 8 0) d) i;
        offset = (ap (λ (x : List ℕ). num (take 4 x)) (sym (drop-drop 9 2 s) ∙ ap (drop 9) d)) i;
        bytes = (ap (take 32) (sym (drop-drop 13 2 s) ∙ ap (drop 13) d)) i;
      }

module _ (s : List ℕ) where
  test : ℕ → Bool
  test n = good_replies n s

  -- replies are accepted exactly where they are whole good rows
  pub replies_exactly : (n : ℕ) → (replies_of s ≡ Some n → WholeReplies n s) × (WholeReplies n s → replies_of s ≡ Some n)
  unfolding replies_of test
  replies_exactly n = (
    counted_whole test Some None (length s) 48 (λ m k q. cc) (λ k q. cc) n,
    λ w. whole_counted test Some None (length s) 48 (omega arith) n w.0 w.1,
  )

  -- other bytes are bad
  pub replies_else : ((n : ℕ) → WholeReplies n s → ⊥) → replies_of s ≡ None
  unfolding replies_of test
  replies_else never = else_refused test Some None (length s) 48 (λ n l g. never n (l, g))
