-- What two reads in a row consume, and where the second's bytes stand. Assumes nothing.
use Rattle.std.specs.Prelude.{◌≡◌, List, ℕ, ◌+◌, ◌≤◌, ◌++◌, length, take, Option, Some, None}
use Rattle.std.proofs.Common.{ap, ◌∙◌, sym, append_assoc, length-take-le}
use Rattle.std.proofs.Math.Seq.{take-append-add}
use Rattle.std.proofs.lemmas.List.{take-append-le}
use Rattle.std.specs.Io.KnownBytes.{Consumes}
use borrow.Rule.Slice.PartMut.{put_mid, post_of}

pub consumes_more : (a b c : Option (List ℕ)) (xs ys : List ℕ) → Consumes a b xs → Consumes b c ys → Consumes a c (xs ++ ys)
consumes_more None b c xs ys h k = tt
consumes_more (Some u) None c xs ys h k = absurd h
consumes_more (Some u) (Some v) None xs ys h k = absurd k
consumes_more (Some u) (Some v) (Some w) xs ys h k = h ∙ ap (λ (z : List ℕ). xs ++ z) k ∙ sym (append_assoc xs ys w)

pub read_behind : (a k n : ℕ) (xs ys : List ℕ) → a ≤ length xs → n ≤ length ys → take (a + n) (put_mid a k xs ys) ≡ take a xs ++ take n ys
read_behind a k n xs ys h l =
    ap (λ (m : ℕ). take (m + n) (put_mid a k xs ys)) (sym (length-take-le a xs h))
    ∙ take-append-add (take a xs) (ys ++ post_of a k xs) n
    ∙ ap (λ (z : List ℕ). take a xs ++ z) (take-append-le n ys (post_of a k xs) l)
