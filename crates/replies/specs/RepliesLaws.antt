-- What the walk over reply rows does in a turn. Assumes nothing.
use Rattle.std.specs.Prelude.{◌≡◌, Bool, true, false, List, ◌++◌, ℕ, suc, ◌/◌, ◌<◌, length, take, drop}
use Rattle.std.proofs.Common.{sym, ap, ◌∙◌, arith, length-append, take_at, drop_at}
use Rattle.words.specs.Choice.{both}
use Rattle.replies.specs.Reply.{good_reply}
use Rattle.replies.specs.Replies.{good_replies}
use Rattle.replies.specs.Walks.{good_rest}

-- of the rows r that are left, x is the first
module _ (r x t : List ℕ) (e : r ≡ x ++ t) (l : length x ≡ 48) where
  turn : good_rest r ≡ both (good_reply x) (good_rest t)
  unfolding good_replies
  turn =
      let n : length r / 48 ≡ suc (length t / 48) = omega (arith, ap length e, length-append x t) in
      let h : take 48 r ≡ x = ap (take 48) e ∙ take_at x t 48 l in
      let d : drop 48 r ≡ t = ap (drop 48) e ∙ drop_at x t 48 l in
      rw (n, h, d)

  pub replies_on : true ≡ good_reply x → good_rest r ≡ good_rest t
  replies_on q = turn ∙ ap (λ (b : Bool). both b (good_rest t)) (sym q)

  pub replies_stop : false ≡ good_reply x → good_rest r ≡ false
  replies_stop q = turn ∙ ap (λ (b : Bool). both b (good_rest t)) (sym q)

-- less than a row is left
pub replies_end : (r : List ℕ) → length r < 48 → good_rest r ≡ true
unfolding good_replies
replies_end r h = let n : length r / 48 ≡ 0 = omega arith in rw n
