-- Rows of replies (document 01, number 46: not whole 48-byte rows, or a row against the layout).
use Rattle.std.specs.Prelude.{◌≡◌, Bool, true, List, ℕ, zero, suc, ◌*◌, length, take, drop, Option, Some, None}
use Rattle.words.specs.Choice.{both}
use Rattle.words.specs.Whole.{whole_of}
use Rattle.replies.specs.Reply.{good_reply}

-- the first n rows are good
unfoldable pub good_replies : ℕ → List ℕ → Bool
good_replies zero s = true
good_replies (suc n) s = both (good_reply (take 48 s)) (good_replies n (drop 48 s))

-- s is n whole rows, all good
abbrev pub WholeReplies : ℕ → List ℕ → Type 0
WholeReplies n s = (length s ≡ n * 48) × (good_replies n s ≡ true)

-- the number of rows, where there are whole rows and all are good
unfoldable pub replies_of : List ℕ → Option ℕ
replies_of s = whole_of (λ n. good_replies n s) Some None (length s) 48
