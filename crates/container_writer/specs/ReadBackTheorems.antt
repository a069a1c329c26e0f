-- A container that is written reads back as itself. Assumes nothing.
use Rattle.std.specs.Prelude.{◌≡◌, refl, true, List, [], ◌∷◌, ◌++◌, ℕ, ◌*◌, ◌^◌, ◌≤◌, ◌<◌, leb, length, take, drop}
use Rattle.std.proofs.Common.{sym, ap, ◌∙◌, append_assoc, append-nil, arith, length-append, take_at, drop_at, le-leb, eq-eqb}
use Rattle.words.specs.Bytes.{num, be_bytes, words_of}
use Rattle.words.specs.BytesLaws.{length_be_bytes}
use Rattle.words.proofs.BytesTheorems.{read_back_all}
use Rattle.container.specs.Container.{Entry, Container, tag}
use Rattle.container.specs.Canonical.{word_bytes, counted_bytes, entry_bytes, entries_bytes, canonical, Words, CountedWords, WritableEntry, WritableEntries, Writable}
use Rattle.container.specs.Reader.{read, part, number, counted, entry, entries, container, whole, done, read_of}
use Rattle.container_writer.specs.WriterLaidLaws.{length_word_bytes}

part_back : (n : ℕ) (b t : List ℕ) → length b ≡ n → part n (b ++ t) ≡ read b t
unfolding part
part_back n b t e = rw (le-leb n (length (b ++ t)) (omega (arith, length-append b t)), take_at b t n e, drop_at b t n e)

number_back : (w v : ℕ) (t : List ℕ) → v < 256 ^ w → number w (be_bytes w v ++ t) ≡ read v t
unfolding number
number_back w v t h = rw (part_back w (be_bytes w v) t (length_be_bytes w v), read_back_all w v h)

words_back : (xs : List ℕ) → Words xs → words_of (length xs) (word_bytes xs) ≡ xs
unfolding words_of word_bytes
words_back [] h = refl
words_back (x ∷ xs) h =
    rw (
      take_at (be_bytes 8 x) (word_bytes xs) 8 (length_be_bytes 8 x),
      drop_at (be_bytes 8 x) (word_bytes xs) 8 (length_be_bytes 8 x),
      read_back_all 8 x h.0,
      words_back xs h.1,
    )

counted_back : (xs t : List ℕ) → CountedWords xs → counted (counted_bytes xs ++ t) ≡ read xs t
unfolding counted counted_bytes
counted_back xs t h =
    rw (
      append_assoc (be_bytes 4 (length xs)) (word_bytes xs) t,
      number_back 4 (length xs) (word_bytes xs ++ t) h.count,
      part_back (length xs * 8) (word_bytes xs) t (length_word_bytes xs),
      words_back xs h.words,
    )

entry_back : (e : Entry) (t : List ℕ) → WritableEntry e → entry (entry_bytes e ++ t) ≡ read e t
unfolding entry entry_bytes
entry_back e t h =
    let sel = be_bytes 4 e.selector in
    let off = be_bytes 4 e.offset in
    let r = counted_bytes e.reads in
    let w = counted_bytes e.writes in
    let kr = counted_bytes e.keyed_reads in
    let kw = counted_bytes e.keyed_writes in
    let all : (sel ++ (off ++ (r ++ (w ++ (kr ++ kw))))) ++ t ≡ sel ++ (off ++ (r ++ (w ++ (kr ++ (kw ++ t))))) = simp append_assoc in
    rw (
      all,
      number_back 4 e.selector (off ++ (r ++ (w ++ (kr ++ (kw ++ t))))) h.selector,
      number_back 4 e.offset (r ++ (w ++ (kr ++ (kw ++ t)))) h.offset,
      counted_back e.reads (w ++ (kr ++ (kw ++ t))) h.reads,
      counted_back e.writes (kr ++ (kw ++ t)) h.writes,
      counted_back e.keyed_reads (kw ++ t) h.keyed_reads,
      counted_back e.keyed_writes t h.keyed_writes,
    )

entries_back : (es : List Entry) (t : List ℕ) → WritableEntries es → entries (length es) (entries_bytes es ++ t) ≡ read es t
unfolding entries entries_bytes
entries_back [] t h = refl
entries_back (e ∷ es) t h =
    rw (append_assoc (entry_bytes e) (entries_bytes es) t, entry_back e (entries_bytes es ++ t) h.0, entries_back es t h.1)

-- what stands after a tag, with anything after it
pub container_back : (c : Container) → Writable c → (t : List ℕ) → container (drop 4 (canonical c ++ t)) ≡ read c t
unfolding container canonical
container_back c h t =
    let n = be_bytes 4 (length c.code) in
    let k = counted_bytes c.consts in
    let m = be_bytes 4 (length c.entries) in
    let es = entries_bytes c.entries in
    let all : (be_bytes 4 tag ++ (n ++ (c.code ++ (k ++ (m ++ es))))) ++ t ≡ be_bytes 4 tag ++ (n ++ (c.code ++ (k ++ (m ++ (es ++ t))))) = simp append_assoc in
    rw (
      all,
      drop_at (be_bytes 4 tag) (n ++ (c.code ++ (k ++ (m ++ (es ++ t))))) 4 (length_be_bytes 4 tag),
      number_back 4 (length c.code) (c.code ++ (k ++ (m ++ (es ++ t)))) h.code,
      part_back (length c.code) c.code (k ++ (m ++ (es ++ t))) refl,
      counted_back c.consts (m ++ (es ++ t)) h.consts,
      number_back 4 (length c.entries) (es ++ t) h.count,
      entries_back c.entries t h.entries,
    )

-- the tag stands first
pub tag_back : (c : Container) (t : List ℕ) → (leb 4 (length (canonical c ++ t)) ≡ true) × (num (take 4 (canonical c ++ t)) ≡ tag)
unfolding canonical
tag_back c t =
    let rest = be_bytes 4 (length c.code) ++ (c.code ++ (counted_bytes c.consts ++ (be_bytes 4 (length c.entries) ++ entries_bytes c.entries))) in
    let all : (be_bytes 4 tag ++ rest) ++ t ≡ be_bytes 4 tag ++ (rest ++ t) = append_assoc (be_bytes 4 tag) rest t in
    let l : 4 ≤ length (be_bytes 4 tag ++ (rest ++ t)) = omega (arith, length-append (be_bytes 4 tag) (rest ++ t), length_be_bytes 4 tag) in (
      rw all (le-leb 4 (length (be_bytes 4 tag ++ (rest ++ t))) l),
      rw (all, take_at (be_bytes 4 tag) (rest ++ t) 4 (length_be_bytes 4 tag)) (read_back_all 4 tag (omega arith)),
    )

-- bytes that a container's begin are read as what follows allows
pub begun : (c : Container) → Writable c → (t : List ℕ) → read_of (canonical c ++ t) ≡ whole (read c t)
unfolding read_of
begun c h t = rw ((tag_back c t).0, eq-eqb (num (take 4 (canonical c ++ t))) tag (tag_back c t).1, container_back c h t)

pub read_after_write : (c : Container) → Writable c → read_of (canonical c) ≡ done c
unfolding whole
read_after_write c h = ap read_of (sym (append-nil (canonical c))) ∙ begun c h []
