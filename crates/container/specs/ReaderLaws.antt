-- What the reader answers, from what the code finds on its way. Assumes nothing.
use Rattle.std.specs.Prelude.{◌≡◌, ℕ, ◌+◌, ◌-◌, ◌*◌, ◌≤◌, ◌<◌, take, Some, None, Ok, Err}
use Rattle.std.proofs.Math.Path.{ap}
use Rattle.std.proofs.Common.{◌∙◌}
use mathlib.Core.List.{List, []}
use native.Mathlib.Omega.{arith}
use Rattle.std.proofs.Math.ListN.{length, drop, length-drop, drop_of_length-le}
use Rattle.std.proofs.Math.Seq.{length-take-le, drop-cons}
use borrow.Author.Tests.{le-leb, lt-leb, eq-eqb, ne_eqb}
use Rattle.words.specs.Bytes.{num}
use Rattle.container.specs.Container.{tag}
use Rattle.container.specs.Reader.{read, counted, entries, container, whole, read_of, layout_of, reading_of}
use Rattle.container.specs.ParseLaws.{number_there, number_short, part_there, part_short}
use Rattle.container.specs.Entries.{list_at, entries_end}
use Rattle.container.specs.EntryLaws.{ListRead, list_told, short_told}
use Rattle.container.specs.EntriesLaws.{EntriesFound, entries_found, entries_short}
use Rattle.container.specs.declared.entries.Slots.{Slots}
use Rattle.container.specs.declared.reader.ReadError.TheVariants.{BadTag, Short, Trailing}

-- fewer than four bytes, and four that are not the tag
pub no_tag : (s : List ℕ) → length s < 4 → Err Short ≡ reading_of (read_of s)
unfolding read_of reading_of
no_tag s h = rw (lt-leb 4 (length s) h)

module _ (s : List ℕ) (h : 4 ≤ length s) where
  pub bad_tag : (num (take 4 s) ≡ tag → ⊥) → Err BadTag ≡ reading_of (read_of s)
  unfolding read_of reading_of
  bad_tag e = rw (le-leb 4 (length s) h, ne_eqb (num (take 4 s)) tag e)

  pub good_tag : num (take 4 s) ≡ tag → reading_of (whole (container (drop 4 s))) ≡ reading_of (read_of s)
  unfolding read_of
  good_tag e = rw (le-leb 4 (length s) h, eq-eqb (num (take 4 s)) tag e)

pub ruleset tag_laws = (no_tag, bad_tag, good_tag)

-- what the code finds after the tag, part after part
pub no_length : (s : List ℕ) → length s < 8 → Err Short ≡ reading_of (whole (container (drop 4 s)))
unfolding container whole reading_of
no_length s h = rw (number_short s 4 4 (omega arith))

module _ (s : List ℕ) (n : ℕ) (e : n ≡ num (take 4 (drop 4 s))) (h : 8 ≤ length s) where
  pub no_code : length s - 8 < n → Err Short ≡ reading_of (whole (container (drop 4 s)))
  unfolding container whole reading_of
  no_code l = rw (number_there s 4 4 h, ← e, part_short s 8 n l)

  module _ (l : n ≤ length s - 8) where
    pub no_consts : None ≡ list_at (8 + n) (counted (drop (8 + n) s)) → Err Short ≡ reading_of (whole (container (drop 4 s)))
    unfolding container whole reading_of
    no_consts k = rw (number_there s 4 4 h, ← e, part_there s 8 n l, short_told (8 + n) (counted (drop (8 + n) s)) k)

    module _ (k : Slots) (next : ℕ) (K : ListRead s (8 + n) k next) (m : ℕ) (f : m ≡ num (take 4 (drop next s))) (g : next + 4 ≤ length s) where
      module _ (end : ℕ) (E : EntriesFound s m (next + 4) end) where
        stands : container (drop 4 s) ≡ read (record { code = take n (drop 8 s); consts = K.words; entries = E.found }) (drop end s)
        unfolding container
        stands = rw (number_there s 4 4 h, ← e, part_there s 8 n l, K.is, number_there s next 4 g, ← f, E.is)

        laid : length s ≤ end →
            Ok (record { code = n; consts = k.count; entries = m; code_at = 8; consts_at = k.at; entries_at = next + 4 })
            ≡ reading_of (whole (container (drop 4 s)))
        unfolding whole reading_of layout_of
        laid r =
            let z : drop end s ≡ [] = drop_of_length-le s r in
            let a : length (take n (drop 8 s)) ≡ n = length-take-le n (drop 8 s) (rw length-drop (omega arith)) in
            let p : k.count ≡ length K.words = ap (λ (x : Slots). x.count) K.slots in
            let b : 8 + n + 4 ≡ 12 + n = omega arith in
            let q : k.at ≡ 12 + n = ap (λ (x : Slots). x.at) K.slots ∙ b in
            let c : next + 4 ≡ 16 + n + length K.words * 8 = omega (arith, K.after) in
            rw (stands, z, a, E.count, p, q, c)

    module _ (k : Slots) (next : ℕ) (a : Some (k, next) ≡ list_at (8 + n) (counted (drop (8 + n) s))) where
      K : ListRead s (8 + n) k next
      K = list_told s (8 + n) k next a

      pub no_count : length s - next < 4 → Err Short ≡ reading_of (whole (container (drop 4 s)))
      unfolding container whole reading_of
      no_count r = rw (number_there s 4 4 h, ← e, part_there s 8 n l, K.is, number_short s next 4 r)

      module _ (m : ℕ) (f : m ≡ num (take 4 (drop next s))) (g : next + 4 ≤ length s) where
        pub no_entries : None ≡ entries_end (next + 4) (entries m (drop (next + 4) s)) → Err Short ≡ reading_of (whole (container (drop 4 s)))
        unfolding container whole reading_of
        no_entries r =
            let t = entries_short (next + 4) (entries m (drop (next + 4) s)) r in
            rw (number_there s 4 4 h, ← e, part_there s 8 n l, K.is, number_there s next 4 g, ← f, t)

        module _ (end : ℕ) (b : Some end ≡ entries_end (next + 4) (entries m (drop (next + 4) s))) where
          E : EntriesFound s m (next + 4) end
          E = entries_found s m (next + 4) end g b

          pub left_over : end < length s → Err Trailing ≡ reading_of (whole (container (drop 4 s)))
          unfolding whole reading_of
          left_over r = rw (stands k next K m f g end E, drop-cons s end 0 r)

          pub all_read : length s ≤ end →
              Ok (record { code = n; consts = k.count; entries = m; code_at = 8; consts_at = k.at; entries_at = next + 4 })
              ≡ reading_of (whole (container (drop 4 s)))
          all_read r = laid k next K m f g end E r

pub ruleset body_laws = (no_length, no_code, no_consts, no_count, no_entries, left_over)
