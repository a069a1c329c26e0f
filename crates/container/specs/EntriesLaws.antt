-- Entries in a row: a turn of a loop over them, and what is told when all are read. Assumes nothing.
use Rattle.std.specs.Prelude.{◌≡◌, List, [], ◌∷◌, ℕ, zero, suc, ◌+◌, ◌-◌, ◌≤◌, ◌<◌, length, drop, Some, None}
use Rattle.std.proofs.Math.Path.{refl}
use Rattle.std.proofs.Common.{sym, ap, ◌∙◌, arith}
use Rattle.container.specs.Container.{Entry}
use Rattle.container.specs.Reader.{Parsed, short, read, and_then, entry, entries}
use Rattle.container.specs.Entries.{placed, entry_at, ends, entries_end}
use Rattle.container.specs.EntryToldLaws.{both_read, entry_told, EntryFound, entry_found, entry_short}
use Rattle.container.specs.declared.entries.EntryLayout.{EntryLayout}

-- one entry, then the others
pub entries_more : (n : ℕ) (s : List ℕ) → 0 < n → entries n s ≡ and_then (entry s) (λ e t. and_then (entries (n - 1) t) (λ es u. read (e ∷ es) u))
unfolding entries
entries_more n s h = let e : n ≡ suc (n - 1) = omega arith in ap (λ (k : ℕ). entries k s) e

pub no_more : (n : ℕ) (s : List ℕ) → n ≤ 0 → entries n s ≡ read [] s
unfolding entries
no_more n s h = let e : n ≡ 0 = omega arith in ap (λ (k : ℕ). entries k s) e

-- where a loop over n entries stands after i
module _ (s : List ℕ) (n i at : ℕ) where
  pub end_turn : i < n → (l : EntryLayout) → Some l ≡ entry_at at (entry (drop at s)) →
      entries_end at (entries (n - i) (drop at s)) ≡ entries_end l.end (entries (n - (i + 1)) (drop l.end s))
  unfolding entries_end ends
  end_turn h l e =
      let f = entry_found s at l e in
      let m : n - i - 1 ≡ n - (i + 1) = omega arith in
      rw (entries_more (n - i) (drop at s) (omega arith), f.is, m) (by f (entries (n - (i + 1)) (drop l.end s)))
    where
      by : (f : EntryFound s at l) (p : Parsed (List Entry)) → entries_end at (and_then p (λ es u. read (f.found ∷ es) u)) ≡ entries_end l.end p
      by f short = refl
      by f (read es u) = rw f.layout

  pub end_short : i < n → None ≡ entry_at at (entry (drop at s)) → None ≡ entries_end at (entries (n - i) (drop at s))
  unfolding entries_end
  end_short h e = rw (entries_more (n - i) (drop at s) (omega arith), entry_short s at e)

  pub end_reached : n ≤ i → Some at ≡ entries_end at (entries (n - i) (drop at s))
  unfolding entries_end ends
  end_reached h = rw (no_more (n - i) (drop at s) (omega arith))

pub ruleset end_laws = (end_turn, end_short, end_reached)

-- entries that were read: the first, and those after it
pub record Cons (s : List ℕ) (n : ℕ) (l : EntryLayout) (e : Entry) (es : List Entry) (t : List ℕ) : Type 0 where
  pub tail : List Entry
  pub is : es ≡ e ∷ tail
  pub others : entries (n - 1) (drop l.end s) ≡ read tail t

pub entries_cons : (s : List ℕ) (n at : ℕ) (l : EntryLayout) (f : EntryFound s at l) (es : List Entry) (t : List ℕ) → 0 < n →
    entries n (drop at s) ≡ read es t → Cons s n l f.found es t
entries_cons s n at l f es t h k =
    let x = both_read (entry (drop at s)) _ es t (sym (entries_more n (drop at s) h) ∙ k) in
    let y = both_read (entries (n - 1) x.rest) _ es t x.then in
    let a = f.is in
    let b = x.is in
    let c = y.then in
    let d : drop l.end s ≡ x.rest = cc in
    let u : y.rest ≡ t = cc in
    record { tail = y.first; is = cc; others = ap (entries (n - 1)) d ∙ y.is ∙ ap (read y.first) u }

-- entries that were read: how many, and what is left
pub record EntriesTold (s : List ℕ) (n at : ℕ) (es : List Entry) (t : List ℕ) : Type 0 where
  pub rest : t ≡ drop (ends at es) s
  pub within : ends at es ≤ length s
  pub count : length es ≡ n

pub entries_told : (s : List ℕ) (n at : ℕ) (es : List Entry) (t : List ℕ) → at ≤ length s → entries n (drop at s) ≡ read es t → EntriesTold s n at es t
unfolding entries ends
entries_told s zero at es t h k =
    let a : [] ≡ es = cc in
    let b : drop at s ≡ t = cc in
    let r : EntriesTold s zero at [] (drop at s) = record { rest = refl; within = h; count = refl } in
    rw (a, b) at r
entries_told s (suc n) at es t h k =
    let x = both_read (entry (drop at s)) _ es t k in
    let e = entry_told s at x.first x.rest x.is in
    let y = both_read (entries n x.rest) _ es t x.then in
    let r = entries_told s n (placed at x.first).end y.first y.rest e.within (ap (entries n) (sym e.rest) ∙ y.is) in
    let z = y.then in
    let a : x.first ∷ y.first ≡ es = cc in
    let b : y.rest ≡ t = cc in
    let q : EntriesTold s (suc n) at (x.first ∷ y.first) y.rest = record { rest = r.rest; within = r.within; count = ap suc r.count } in
    rw (a, b) at q

-- what the code is told of entries that were read
pub record EntriesFound (s : List ℕ) (n at end : ℕ) : Type 0 where
  pub found : List Entry
  pub is : entries n (drop at s) ≡ read found (drop end s)
  pub within : end ≤ length s
  pub count : length found ≡ n

pub entries_found : (s : List ℕ) (n at end : ℕ) → at ≤ length s → Some end ≡ entries_end at (entries n (drop at s)) → EntriesFound s n at end
unfolding entries_end
entries_found s n at end l h = by (entries n (drop at s)) refl h
  where
    by : (p : Parsed (List Entry)) → entries n (drop at s) ≡ p → Some end ≡ entries_end at p → EntriesFound s n at end
    by short e k = absurd (let z : ◌≡◌ {A = ℕ} 0 1 = cc in omega arith)
    by (read es t) e k =
        let r = entries_told s n at es t l e in
        let d : end ≡ ends at es = cc in
        record { found = es; is = rw (d, ← r.rest) e; within = rw d r.within; count = r.count }

pub entries_short : (at : ℕ) (p : Parsed (List Entry)) → None ≡ entries_end at p → p ≡ short
unfolding entries_end
entries_short at short h = refl
entries_short at (read es t) h = absurd (let z : ◌≡◌ {A = ℕ} 0 1 = cc in omega arith)
