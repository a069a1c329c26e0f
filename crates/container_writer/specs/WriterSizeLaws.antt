-- How many bytes a container takes, and that the list's length tells it. Assumes nothing.
use Rattle.std.specs.Prelude.{◌≡◌, refl, true, List, ◌++◌, ℕ, zero, suc, ◌+◌, ◌*◌, ◌-◌, ◌≤◌, length, take, drop, is_some}
use Rattle.std.proofs.Common.{sym, ap, ◌∙◌, arith, length-append, length-drop, length-take-le, eqb-true}
use Rattle.words.specs.Bytes.{be_bytes}
use Rattle.words.specs.BytesLaws.{length_be_bytes}
use Rattle.container.specs.Container.{Entry, Container, slot_count, tag}
use Rattle.container.specs.Canonical.{word_bytes, counted_bytes, entry_bytes, entries_bytes, canonical}
use Rattle.words.specs.Lists.{nth}
use Rattle.container_writer.specs.Writer.{slots_in, entry_in, entries_in, listed}
use Rattle.container_writer.specs.WriterParts.{BeginsEntry, or_empty, container_of}
use Rattle.container_writer.specs.WriterLaidLaws.{length_word_bytes}
use Rattle.container_writer.specs.WriterLaws.{begins, after_entry, more, is_end, none_left, listed_so}

length_counted : (xs : List ℕ) → length (counted_bytes xs) ≡ 4 + length xs * 8
unfolding counted_bytes
length_counted xs = omega (arith, length-append (be_bytes 4 (length xs)) (word_bytes xs), length_be_bytes 4 (length xs), length_word_bytes xs)

-- an entry takes 24 bytes and 8 for each slot
pub length_entry : (e : Entry) → length (entry_bytes e) ≡ 24 + slot_count e * 8
unfolding entry_bytes slot_count
length_entry e =
    let kw = counted_bytes e.keyed_writes in
    let kr = counted_bytes e.keyed_reads in
    let w = counted_bytes e.writes in
    let r = counted_bytes e.reads in
    let o = be_bytes 4 e.offset in
    omega (
      arith,
      length-append (be_bytes 4 e.selector) (o ++ (r ++ (w ++ (kr ++ kw)))),
      length-append o (r ++ (w ++ (kr ++ kw))),
      length-append r (w ++ (kr ++ kw)),
      length-append w (kr ++ kw),
      length-append kr kw,
      length_be_bytes 4 e.selector,
      length_be_bytes 4 e.offset,
      length_counted e.reads,
      length_counted e.writes,
      length_counted e.keyed_reads,
      length_counted e.keyed_writes,
    )

-- a part of a list that stands has its length
part_length : (xs : List ℕ) (from n : ℕ) → from + n ≤ length xs → length (take n (drop from xs)) ≡ n
part_length xs from n h = length-take-le n (drop from xs) (rw length-drop (omega arith))

pub slots_stand : (xs : List ℕ) → BeginsEntry xs → slot_count (entry_in xs) ≡ slots_in xs
unfolding slot_count entry_in slots_in
slots_stand xs b =
    let w = b.whole in
    omega (
      arith,
      part_length xs 6 (nth xs 2) (omega arith),
      part_length xs (6 + nth xs 2) (nth xs 3) (omega arith),
      part_length xs (6 + nth xs 2 + nth xs 3) (nth xs 4) (omega arith),
      part_length xs (6 + nth xs 2 + nth xs 3 + nth xs 4) (nth xs 5) (omega arith),
    )

-- n entries of a list: they are n, and their bytes are 8 for each number but for 24 an entry
pub record EntriesSized (n : ℕ) (xs : List ℕ) (es : List Entry) : Type 0 where
  pub count : length es ≡ n
  pub size : length (entries_bytes es) + n * 24 ≡ length xs * 8

pub entries_sized : (n : ℕ) (xs : List ℕ) → is_some (entries_in n xs) ≡ true → EntriesSized n xs (or_empty (entries_in n xs))
unfolding entries_bytes
entries_sized zero xs s = rw (none_left zero xs refl) (record { count = refl; size = omega (arith, eqb-true 0 (length xs) (sym (is_end zero xs refl) ∙ s)) })
entries_sized (suc n) xs s =
    let m = more (suc n) xs (omega arith) s in
    let e : suc n - 1 ≡ n = omega arith in
    let i : EntriesSized n (after_entry xs) (or_empty (entries_in (suc n - 1) (after_entry xs))) = rw e (entries_sized n (after_entry xs) (rw e at m.next)) in
    let es = or_empty (entries_in (suc n - 1) (after_entry xs)) in
    let b = begins xs m.begin in
    rw m.are (record {
      count = ap suc i.count;
      size = omega (
        arith,
        length-append (entry_bytes (entry_in xs)) (entries_bytes es),
        length_entry (entry_in xs),
        slots_stand xs b,
        b.whole,
        i.size,
        length-drop (6 + slots_in xs) xs,
      );
    })

-- all of a container
pub length_canonical : (c : Container) → length (canonical c) ≡ 16 + length c.code + length c.consts * 8 + length (entries_bytes c.entries)
unfolding canonical
length_canonical c =
    let es = entries_bytes c.entries in
    let n = be_bytes 4 (length c.entries) in
    let k = counted_bytes c.consts in
    let l = be_bytes 4 (length c.code) in
    omega (
      arith,
      length-append (be_bytes 4 tag) (l ++ (c.code ++ (k ++ (n ++ es)))),
      length-append l (c.code ++ (k ++ (n ++ es))),
      length-append c.code (k ++ (n ++ es)),
      length-append k (n ++ es),
      length-append n es,
      length_be_bytes 4 tag,
      length_be_bytes 4 (length c.code),
      length_be_bytes 4 (length c.entries),
      length_counted c.consts,
    )

pub listed_size : (code consts list : List ℕ) → is_some (listed list) ≡ true →
    8 + length code + length consts * 8 + length list * 8 ≡ length (canonical (container_of code consts list)) + nth list 0 * 24
listed_size code consts list s =
    let l = listed_so list s in
    let z : EntriesSized (nth list 0) (drop 1 list) (or_empty (listed list)) = rw l.is (entries_sized (nth list 0) (drop 1 list) (rw l.is at s)) in
    omega (arith, length_canonical (container_of code consts list), z.size, length-drop 1 list, l.stands)

-- the pieces of a container's bytes as the list has them
pub canonical_is : (code consts list : List ℕ) → is_some (listed list) ≡ true →
    canonical (container_of code consts list) ≡ be_bytes 4 tag ++ (be_bytes 4 (length code) ++ (code
    ++ (counted_bytes consts ++ (be_bytes 4 (nth list 0) ++ entries_bytes (or_empty (entries_in (nth list 0) (drop 1 list)))))))
unfolding canonical
canonical_is code consts list s =
    let l = listed_so list s in
    rw (l.is, (entries_sized (nth list 0) (drop 1 list) (rw l.is at s)).count)
