-- What is left to test in the walks over a row and over rows: what proofs speak of, no rule.
use Rattle.std.specs.Prelude.{Bool, List, ℕ, ◌+◌, ◌/◌, eqb, length, drop}
use Rattle.words.specs.Choice.{both, either}
use Rattle.replies.specs.Reply.{zeros, good_register, good_region}
use Rattle.replies.specs.Replies.{good_replies}
use Rattle.replies.specs.declared.reply.Reply.{Reply}

-- the tests of a row in order, with one walk over the bytes past the length and the last
abbrev pub after_zeros : List ℕ → Reply → Bool
after_zeros s r = either (eqb r.outcome 0) (both (eqb r.register 255) (zeros (drop 2 s)))

abbrev pub after_region : List ℕ → Reply → Bool
after_region s r = both (zeros (drop (r.length + 15) s)) (after_zeros s r)

abbrev pub after_register : List ℕ → Reply → Bool
after_register s r = both (good_region r.length r.offset) (after_region s r)

abbrev pub after_outcome : List ℕ → Reply → Bool
after_outcome s r = both (good_register r.register r.value) (after_register s r)

-- the rows that are left are good
abbrev pub good_rest : List ℕ → Bool
good_rest r = good_replies (length r / 48) r
