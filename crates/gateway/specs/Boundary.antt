-- What a C function returns and leaves in its answer (document 01, Numbers returned).
use Rattle.std.specs.Prelude.{List, ◌++◌, ℕ, ◌%◌, ◌^◌, ltb, length, drop, get_or}
use Rattle.words.specs.Choice.{pick}

-- these words, then the rest of the buffer as it was
unfoldable pub words_into : (words buffer : List ℕ) → List ℕ
words_into ws l = ws ++ drop (length ws) l

-- the number returned, and the answer's buffer at the end
pub record Answered : Type 0 where
  pub number : ℕ
  pub answer : List ℕ

abbrev pub answered : ℕ → List ℕ → Answered
answered n l = record { number = n; answer = l }

-- the words in the answer and their first, the number, in four bytes; 48 and no word where they do not fit
unfoldable pub answered_of : (words answer : List ℕ) → Answered
answered_of ws l = pick (ltb (length l) (length ws)) (answered 48 l) (answered (get_or ws 0 0 % 2 ^ 32) (words_into ws l))

-- the same of a call that lends more than its answer
pub record Told (A : Type 0) : Type 0 where
  pub given : Answered
  pub lent : A

abbrev pub told : {A : Type 0} → ℕ → (answer : List ℕ) → (lent : A) → Told A
told n l b = record { given = answered n l; lent = b }

-- where the words do not fit, nothing that is lent is touched
unfoldable pub told_of : {A : Type 0} → (before after : A) → (words answer : List ℕ) → Told A
told_of before after ws l = record { given = answered_of ws l; lent = pick (ltb (length l) (length ws)) before after }
