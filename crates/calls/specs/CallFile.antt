-- A call's file: selector 4, limit 8, number of replies 4, bytes of preload 4; then the replies, 48 bytes each, and the preload.
use Rattle.std.specs.Prelude.{List, ℕ, ◌+◌, ◌*◌, leb, length, take, drop, Result, Ok, Err}
use Rattle.words.specs.Bytes.{num}
use Rattle.words.specs.Choice.{pick}
use Rattle.calls.specs.declared.Head.{Head}
use Rattle.calls.specs.declared.CutError.{CutError}

-- where the preload begins
unfoldable pub preload_at : List ℕ → ℕ
preload_at s = 20 + num (take 4 (drop 12 s)) * 48

-- where the file ends, by its own numbers
unfoldable pub end_at : List ℕ → ℕ
end_at s = preload_at s + num (take 4 (drop 16 s))

-- what the head says, and where the preload begins
unfoldable pub head_of : List ℕ → Head
head_of s = record { selector = num (take 4 s); limit = num (take 8 (drop 4 s)); preload = preload_at s }

-- a file that ends early is short, one with bytes left over long
unfoldable pub parted_of : List ℕ → Result Head CutError
parted_of s =
    pick (leb 20 (length s))
    (pick (leb (end_at s) (length s))
    (pick (leb (length s) (end_at s)) (Ok (head_of s)) (Err CutError.Long))
    (Err CutError.Short))
    (Err CutError.Short)
