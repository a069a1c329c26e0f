-- Reading a container from bytes, and what is refused: 41 a wrong tag, 42 bytes that end too soon, 43 bytes left over (document 01).
use Rattle.std.specs.Prelude.{List, [], ◌∷◌, ℕ, zero, suc, ◌+◌, ◌*◌, leb, eqb, length, take, drop, Result, Ok, Err}
use Rattle.words.specs.Choice.{pick}
use Rattle.words.specs.Bytes.{num, words_of}
use Rattle.container.specs.Container.{Entry, Container, tag}
use Rattle.container.specs.declared.reader.Layout.{Layout}
use Rattle.container.specs.declared.reader.ReadError.{ReadError}
use Rattle.container.specs.declared.reader.ReadError.TheVariants.{BadTag, Short, Trailing}

-- what bytes begin with, and the bytes after it; or they end too soon
pub data Parsed (A : Type 0) : Type 0 where
  short : Parsed A
  read : A → List ℕ → Parsed A

abbrev pub and_then : {A B : Type 0} → Parsed A → (A → List ℕ → Parsed B) → Parsed B
and_then short f = short
and_then (read a s) f = f a s

-- n bytes
unfoldable pub part : ℕ → List ℕ → Parsed (List ℕ)
part n s = pick (leb n (length s)) (read (take n s) (drop n s)) short

-- a number of w bytes
unfoldable pub number : ℕ → List ℕ → Parsed ℕ
number w s = and_then (part w s) (λ b t. read (num b) t)

-- how many words, then the words
unfoldable pub counted : List ℕ → Parsed (List ℕ)
counted s = and_then (number 4 s) (λ n t. and_then (part (n * 8) t) (λ b u. read (words_of n b) u))

unfoldable pub entry : List ℕ → Parsed Entry
entry s =
    and_then (number 4 s) (λ sel s1. and_then (number 4 s1) (λ off s2.
    and_then (counted s2) (λ r s3. and_then (counted s3) (λ w s4. and_then (counted s4) (λ kr s5. and_then (counted s5) (λ kw s6.
    read (record { selector = sel; offset = off; reads = r; writes = w; keyed_reads = kr; keyed_writes = kw }) s6))))))

unfoldable pub entries : ℕ → List ℕ → Parsed (List Entry)
entries zero s = read [] s
entries (suc n) s = and_then (entry s) (λ e t. and_then (entries n t) (λ es u. read (e ∷ es) u))

-- what stands after the tag
unfoldable pub container : List ℕ → Parsed Container
container s =
    and_then (number 4 s) (λ n s1. and_then (part n s1) (λ c s2. and_then (counted s2) (λ k s3.
    and_then (number 4 s3) (λ m s4. and_then (entries m s4) (λ es s5.
    read (record { code = c; consts = k; entries = es }) s5)))))

-- a container, or why there is none
pub data Read : Type 0 where
  done : Container → Read
  refused : ReadError → Read

unfoldable pub whole : Parsed Container → Read
whole short = refused Short
whole (read c []) = done c
whole (read c (x ∷ t)) = refused Trailing

unfoldable pub read_of : List ℕ → Read
read_of s = pick (leb 4 (length s)) (pick (eqb (num (take 4 s)) tag) (whole (container (drop 4 s))) (refused BadTag)) (refused Short)

-- how many code bytes, constants and entries, and where each part begins
unfoldable pub layout_of : Container → Layout
layout_of c =
    let n = length c.code in
    let k = length c.consts in
    record { code = n; consts = k; entries = length c.entries; code_at = 8; consts_at = 12 + n; entries_at = 16 + n + k * 8 }

unfoldable pub reading_of : Read → Result Layout ReadError
reading_of (done c) = Ok (layout_of c)
reading_of (refused e) = Err e
