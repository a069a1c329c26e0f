-- A row of replies, and the layout that it keeps to (document 01, Lent input).
use Rattle.std.specs.Prelude.{Bool, true, List, [], ◌∷◌, ℕ, ◌+◌, take, drop, get_or, leb, ltb, eqb}
use Rattle.words.specs.Bytes.{num}
use Rattle.words.specs.Choice.{both, either}
use Rattle.replies.specs.declared.reply.Reply.{Reply}

-- the reply that a row says
unfoldable pub reply_of : List ℕ → Reply
reply_of s = record {
  outcome = get_or s 0 0;
  register = get_or s 1 0;
  value = num (take 8 (drop 2 s));
  length = get_or s 10 0;
  offset = num (take 4 (drop 11 s));
  bytes = take 32 (drop 15 s);
}

-- every element is 0
unfoldable pub zeros : List ℕ → Bool
zeros [] = true
zeros (x ∷ xs) = both (eqb x 0) (zeros xs)

-- register 0 to 15; or 255 for none, and then the value is zero
unfoldable pub good_register : ℕ → ℕ → Bool
good_register register value = either (ltb register 16) (both (eqb register 255) (eqb value 0))

-- at most 32 bytes within the memory; with length 0 the offset is zero
unfoldable pub good_region : ℕ → ℕ → Bool
good_region length offset = both (leb length 32) (both (leb (offset + length) 65536) (either (ltb 0 length) (eqb offset 0)))

-- a row that keeps to the layout; a fault row has register 255 and all else zero
unfoldable pub good_reply : List ℕ → Bool
good_reply s =
    let r = reply_of s in
    both (leb r.outcome 14)
    (both (good_register r.register r.value)
    (both (good_region r.length r.offset)
    (both (zeros (drop r.length r.bytes))
    (both (eqb (get_or s 47 0) 0)
    (either (eqb r.outcome 0) (both (eqb r.register 255) (zeros (drop 2 s))))))))
