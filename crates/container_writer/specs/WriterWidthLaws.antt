-- What the writer takes from its list is within its width. Assumes nothing.
use Rattle.std.specs.Prelude.{◌≡◌, refl, true, List, [], ◌∷◌, ℕ, zero, suc, ◌+◌, ◌-◌, ◌^◌, ◌<◌, take, drop, is_some}
use Rattle.std.proofs.Common.{arith, length-take}
use Rattle.container.specs.Canonical.{Words, CountedWords, WritableEntry, WritableEntries}
use Rattle.words.specs.Lists.{nth}
use Rattle.container_writer.specs.Writer.{slots_in, entry_in, entries_in}
use Rattle.container_writer.specs.WriterParts.{BeginsEntry, or_empty}
use Rattle.container_writer.specs.WriterLaws.{six_short, begins, after_entry, more, none_left}

words_take : (n : ℕ) (xs : List ℕ) → Words xs → Words (take n xs)
words_take zero xs w = tt
words_take (suc n) [] w = tt
words_take (suc n) (x ∷ xs) w = (w.0, words_take n xs w.1)

pub words_drop : (n : ℕ) (xs : List ℕ) → Words xs → Words (drop n xs)
words_drop zero xs w = w
words_drop (suc n) [] w = tt
words_drop (suc n) (x ∷ xs) w = words_drop n xs w.1

counted_part : (xs : List ℕ) (from n : ℕ) → n < 2 ^ 32 → Words xs → CountedWords (take n (drop from xs))
counted_part xs from n h w = record {
  count = omega (arith, length-take n (drop from xs));
  words = words_take n (drop from xs) (words_drop from xs w);
}

writable_entry : (xs : List ℕ) → BeginsEntry xs → Words xs → WritableEntry (entry_in xs)
unfolding entry_in
writable_entry xs b w =
    let short : (k : ℕ) → k < 6 → nth xs k < 2 ^ 32 = λ k l. six_short xs k b.six b.short l in
    record {
      selector = short 0 (omega arith);
      offset = short 1 (omega arith);
      reads = counted_part xs 6 (nth xs 2) (short 2 (omega arith)) w;
      writes = counted_part xs (6 + nth xs 2) (nth xs 3) (short 3 (omega arith)) w;
      keyed_reads = counted_part xs (6 + nth xs 2 + nth xs 3) (nth xs 4) (short 4 (omega arith)) w;
      keyed_writes = counted_part xs (6 + nth xs 2 + nth xs 3 + nth xs 4) (nth xs 5) (short 5 (omega arith)) w;
    }

pub writable_entries : (n : ℕ) (xs : List ℕ) → is_some (entries_in n xs) ≡ true → Words xs → WritableEntries (or_empty (entries_in n xs))
writable_entries zero xs s w = rw (none_left zero xs refl) tt
writable_entries (suc n) xs s w =
    let m = more (suc n) xs (omega arith) s in
    let e : suc n - 1 ≡ n = omega arith in
    rw m.are (
      writable_entry xs (begins xs m.begin) w,
      rw e (writable_entries n (after_entry xs) (rw e at m.next) (words_drop (6 + slots_in xs) xs w)),
    )
