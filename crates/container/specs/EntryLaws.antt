-- Counted lists and entries at a place, as the code finds them. Assumes nothing.
use Rattle.std.specs.Prelude.{◌≡◌, Bool, List, ℕ, ◌+◌, ◌-◌, ◌*◌, ◌/◌, ◌≤◌, ◌<◌, take, drop, Some, None}
use Rattle.std.proofs.Math.Path.{refl}
use Rattle.std.proofs.Common.{◌∙◌, ap}
use Rattle.std.proofs.Math.Bool.{true, false}
use native.Mathlib.Omega.{arith}
use Rattle.std.proofs.Math.Dec.{leb}
use Rattle.std.proofs.Math.ListN.{length}
use borrow.Author.Tests.{leb-true, leb-false}
use Rattle.words.specs.Bytes.{num, words_of}
use Rattle.container.specs.Container.{Entry}
use Rattle.container.specs.Reader.{Parsed, short, read, and_then, counted, entry}
use Rattle.words.specs.BytesLaws.{length_words}
use Rattle.container.specs.ParseLaws.{number_there, number_short, counted_short, counted_there, no_count}
use Rattle.container.specs.Entries.{slots, list_at, placed, entry_at}
use Rattle.container.specs.declared.entries.Slots.{Slots}

pub list_none : (s : List ℕ) (at : ℕ) → length s - at < 4 → None ≡ list_at at (counted (drop at s))
unfolding list_at
list_none s at h = rw (no_count s at h)

module _ (s : List ℕ) (at n : ℕ) (e : n ≡ num (take 4 (drop at s))) (h : at + 4 ≤ length s) where
  pub list_short : (length s - (at + 4)) / 8 < n → None ≡ list_at at (counted (drop at s))
  unfolding list_at
  list_short l = rw (counted_short s at n e h l)

  pub list_there : n ≤ (length s - (at + 4)) / 8 → Some (slots (at + 4) n, at + 4 + n * 8) ≡ list_at at (counted (drop at s))
  unfolding list_at
  list_there l = rw (counted_there s at n e h l, length_words n (take (n * 8) (drop (at + 4) s)))

pub ruleset list_laws = (list_none, list_short, list_there)

-- what a list that was read tells
pub record ListRead (s : List ℕ) (at : ℕ) (l : Slots) (end : ℕ) : Type 0 where
  pub words : List ℕ
  pub is : counted (drop at s) ≡ read words (drop end s)
  pub slots : l ≡ slots (at + 4) (length words)
  pub after : end ≡ at + 4 + length words * 8
  pub within : end ≤ length s

pub short_told : (at : ℕ) (p : Parsed (List ℕ)) → None ≡ list_at at p → p ≡ short
unfolding list_at
short_told at short h = refl
short_told at (read ws t) h = absurd (let z : ◌≡◌ {A = ℕ} 0 1 = cc in omega arith)

module _ (s : List ℕ) (at : ℕ) (l : Slots) (end : ℕ) (h : Some (l, end) ≡ list_at at (counted (drop at s))) where
  with_count : (t : Bool) → leb (num (take 4 (drop at s))) ((length s - (at + 4)) / 8) ≡ t → at + 4 ≤ length s → ListRead s at l end
  with_count true q k =
      let n = num (take 4 (drop at s)) in
      let le : n ≤ (length s - (at + 4)) / 8 = leb-true _ _ q in
      let d = list_there s at n refl k le in
      let ws = words_of n (take (n * 8) (drop (at + 4) s)) in
      let e : length ws ≡ n = length_words n (take (n * 8) (drop (at + 4) s)) in
      let p : ◌≡◌ {A = Slots × ℕ} (l, end) (slots (at + 4) n, at + 4 + n * 8) = cc in
      let x : end ≡ at + 4 + n * 8 = ap (λ (q : Slots × ℕ). q.1) p in
      let y : l ≡ slots (at + 4) n = ap (λ (q : Slots × ℕ). q.0) p in
      record {
        words = ws;
        is = rw x (counted_there s at n refl k le);
        slots = rw e y;
        after = rw e x;
        within = omega arith;
      }
  with_count false q k =
      let d = list_short s at (num (take 4 (drop at s))) refl k (leb-false _ _ q) in
      absurd (let z : ◌≡◌ {A = ℕ} 0 1 = cc in omega arith)

  pub list_told : ListRead s at l end
  list_told = by (leb 4 (length s - at)) refl
    where
      by : (t : Bool) → leb 4 (length s - at) ≡ t → ListRead s at l end
      by true q = with_count (leb (num (take 4 (drop at s))) ((length s - (at + 4)) / 8)) refl (omega (arith, leb-true 4 (length s - at) q))
      by false q = let d = list_none s at (leb-false 4 (length s - at) q) in absurd (let z : ◌≡◌ {A = ℕ} 0 1 = cc in omega arith)

-- an entry's lists, after its numbers
abbrev pub lists : (selector offset : ℕ) → List ℕ → Parsed Entry
lists sel off s =
    and_then (counted s) (λ r s3. and_then (counted s3) (λ w s4. and_then (counted s4) (λ kr s5. and_then (counted s5) (λ kw s6.
    read (record { selector = sel; offset = off; reads = r; writes = w; keyed_reads = kr; keyed_writes = kw }) s6))))

module _ (s : List ℕ) (at : ℕ) where
  pub entry_none : length s - at < 8 → entry (drop at s) ≡ short
  unfolding entry
  entry_none h = by (leb 4 (length s - at)) refl
    where
      by : (t : Bool) → leb 4 (length s - at) ≡ t → entry (drop at s) ≡ short
      by true q =
          rw (number_there s at 4 (omega (arith, leb-true 4 (length s - at) q)), number_short s (at + 4) 4 (omega (arith, leb-true 4 (length s - at) q)))
      by false q = rw (number_short s at 4 (leb-false 4 (length s - at) q))

pub short_entry : (s : List ℕ) (at : ℕ) → length s - at < 8 → None ≡ entry_at at (entry (drop at s))
unfolding entry_at
short_entry s at h = rw (entry_none s at h)

module _ (s : List ℕ) (at : ℕ) (h : at + 8 ≤ length s) where
  pub head : entry (drop at s) ≡ lists (num (take 4 (drop at s))) (num (take 4 (drop (at + 4) s))) (drop (at + 8) s)
  unfolding entry
  head =
      let e : at + 4 + 4 ≡ at + 8 = omega arith in
      rw (number_there s at 4 (omega arith), number_there s (at + 4) 4 (omega arith), e)

  module _ (r : Slots) (w : ℕ) (R : ListRead s (at + 8) r w) (ws : Slots) (kr : ℕ) (W : ListRead s w ws kr) where
    module _ (krs : Slots) (kw : ℕ) (KR : ListRead s kr krs kw) (kws : Slots) (end : ℕ) (KW : ListRead s kw kws end) where
      entry_laid : (sel off : ℕ) → sel ≡ num (take 4 (drop at s)) → off ≡ num (take 4 (drop (at + 4) s)) →
          Some (record { selector = sel; offset = off; reads = r; writes = ws; keyed_reads = krs; keyed_writes = kws; end = end })
          ≡ entry_at at (entry (drop at s))
      unfolding entry_at placed
      entry_laid sel off p q =
          let a : at + 8 + 4 ≡ at + 12 = omega arith in
          let b : w ≡ at + 12 + length R.words * 8 = R.after ∙ rw a in
          let c : kr ≡ at + 12 + length R.words * 8 + 4 + length W.words * 8 = W.after ∙ rw b in
          let d : kw ≡ at + 12 + length R.words * 8 + 4 + length W.words * 8 + 4 + length KR.words * 8 = KR.after ∙ rw c in
          rw (head, R.is, W.is, KR.is, KW.is, p, q, R.slots, W.slots, KR.slots, KW.slots, KW.after, a, b, c, d)

  pub short_reads : None ≡ list_at (at + 8) (counted (drop (at + 8) s)) → None ≡ entry_at at (entry (drop at s))
  unfolding entry_at
  short_reads e = rw (head, short_told (at + 8) (counted (drop (at + 8) s)) e)

  module _ (r : Slots) (w : ℕ) (a : Some (r, w) ≡ list_at (at + 8) (counted (drop (at + 8) s))) where
    R : ListRead s (at + 8) r w
    R = list_told s (at + 8) r w a

    pub short_writes : None ≡ list_at w (counted (drop w s)) → None ≡ entry_at at (entry (drop at s))
    unfolding entry_at
    short_writes e = rw (head, R.is, short_told w (counted (drop w s)) e)

    module _ (ws : Slots) (kr : ℕ) (b : Some (ws, kr) ≡ list_at w (counted (drop w s))) where
      W : ListRead s w ws kr
      W = list_told s w ws kr b

      pub short_keyed_reads : None ≡ list_at kr (counted (drop kr s)) → None ≡ entry_at at (entry (drop at s))
      unfolding entry_at
      short_keyed_reads e = rw (head, R.is, W.is, short_told kr (counted (drop kr s)) e)

      module _ (krs : Slots) (kw : ℕ) (c : Some (krs, kw) ≡ list_at kr (counted (drop kr s))) where
        KR : ListRead s kr krs kw
        KR = list_told s kr krs kw c

        pub short_keyed_writes : None ≡ list_at kw (counted (drop kw s)) → None ≡ entry_at at (entry (drop at s))
        unfolding entry_at
        short_keyed_writes e = rw (head, R.is, W.is, KR.is, short_told kw (counted (drop kw s)) e)

        module _ (kws : Slots) (end : ℕ) (d : Some (kws, end) ≡ list_at kw (counted (drop kw s))) where
          KW : ListRead s kw kws end
          KW = list_told s kw kws end d

          pub entry_done : (sel off : ℕ) → sel ≡ num (take 4 (drop at s)) → off ≡ num (take 4 (drop (at + 4) s)) →
              Some (record { selector = sel; offset = off; reads = r; writes = ws; keyed_reads = krs; keyed_writes = kws; end = end })
              ≡ entry_at at (entry (drop at s))
          entry_done sel off p q = entry_laid r w R ws kr W krs kw KR kws end KW sel off p q

-- an entry of which a list is missing
pub ruleset short_laws = (short_entry, short_reads, short_writes, short_keyed_reads, short_keyed_writes)
