-- What an entry or a counted list that was read tells of its bytes. Assumes nothing.
use Rattle.std.specs.Prelude.{◌≡◌, refl, Bool, true, false, List, ℕ, ◌+◌, ◌-◌, ◌*◌, ◌≤◌, ◌<◌, leb, length, drop, Some, None}
use Rattle.std.proofs.Common.{sym, ap, ◌∙◌, arith, leb-true, leb-false}
use Rattle.container.specs.Container.{Entry}
use Rattle.container.specs.Reader.{Parsed, short, read, and_then, counted, entry}
use Rattle.container.specs.Entries.{slots, list_at, placed, entry_at}
use Rattle.container.specs.EntryLaws.{list_told, entry_none, lists, head}
use Rattle.container.specs.declared.entries.EntryLayout.{EntryLayout}

-- where two readings in a row give something, each does
pub record Both {A B : Type 0} (p : Parsed A) (f : A → List ℕ → Parsed B) (b : B) (t : List ℕ) : Type 0 where
  pub first : A
  pub rest : List ℕ
  pub is : p ≡ read first rest
  pub then : f first rest ≡ read b t

pub both_read : {A B : Type 0} (p : Parsed A) (f : A → List ℕ → Parsed B) (b : B) (t : List ℕ) → and_then p f ≡ read b t → Both p f b t
both_read short f b t h = absurd (let z : ◌≡◌ {A = ℕ} 0 1 = cc in omega arith)
both_read (read a u) f b t h = record { first = a; rest = u; is = refl; then = h }

-- the place after a counted list
abbrev pub after : ℕ → List ℕ → ℕ
after at ws = at + 4 + length ws * 8

pub counted_told : (s : List ℕ) (at : ℕ) (ws t : List ℕ) → counted (drop at s) ≡ read ws t → (t ≡ drop (after at ws) s) × (after at ws ≤ length s)
unfolding list_at
counted_told s at ws t h =
    let l = list_told s at (slots (at + 4) (length ws)) (after at ws) (ap (list_at at) (sym h)) in
    let e = l.is in
    (cc, l.within)

-- a list, then the rest read from the place after it
pub record Listing {B : Type 0} (s : List ℕ) (at : ℕ) (f : List ℕ → List ℕ → Parsed B) (b : B) (t : List ℕ) : Type 0 where
  pub words : List ℕ
  pub is : counted (drop at s) ≡ read words (drop (after at words) s)
  pub within : after at words ≤ length s
  pub then : f words (drop (after at words) s) ≡ read b t

listing : {B : Type 0} (s : List ℕ) (at : ℕ) (f : List ℕ → List ℕ → Parsed B) (b : B) (t : List ℕ) → and_then (counted (drop at s)) f ≡ read b t →
    Listing s at f b t
listing s at f b t h =
    let x = both_read (counted (drop at s)) f b t h in
    let k = counted_told s at x.first x.rest x.is in
    record { words = x.first; is = rw (← k.0) x.is; within = k.1; then = rw k.0 at x.then }

-- an entry that was read: what is left stands after it
pub record EntryTold (s : List ℕ) (at : ℕ) (e : Entry) (t : List ℕ) : Type 0 where
  pub rest : t ≡ drop (placed at e).end s
  pub on : at + 24 ≤ (placed at e).end
  pub within : (placed at e).end ≤ length s

lists_told : (s : List ℕ) (at sel off : ℕ) (e : Entry) (t : List ℕ) → lists sel off (drop (at + 8) s) ≡ read e t → EntryTold s at e t
unfolding placed
lists_told s at sel off e t h =
    let r = listing s (at + 8) _ e t h in
    let w = listing s (after (at + 8) r.words) _ e t r.then in
    let kr = listing s (after (after (at + 8) r.words) w.words) _ e t w.then in
    let kw = listing s (after (after (after (at + 8) r.words) w.words) kr.words) _ e t kr.then in
    let end = after (after (after (after (at + 8) r.words) w.words) kr.words) kw.words in
    let found : Entry = record { selector = sel; offset = off; reads = r.words; writes = w.words; keyed_reads = kr.words; keyed_writes = kw.words } in
    let x : read found (drop end s) ≡ read e t = kw.then in
    let p : found ≡ e = cc in
    let q : drop end s ≡ t = cc in
    let z : (placed at found).end ≡ end = omega arith in
    rw (p, q) at (told found (drop end s) (rw z) (omega arith) (rw z kw.within))
  where
    told : (e : Entry) (t : List ℕ) → t ≡ drop (placed at e).end s → at + 24 ≤ (placed at e).end → (placed at e).end ≤ length s → EntryTold s at e t
    told e t a b c = record { rest = a; on = b; within = c }

pub entry_told : (s : List ℕ) (at : ℕ) (e : Entry) (t : List ℕ) → entry (drop at s) ≡ read e t → EntryTold s at e t
entry_told s at e t h = by (leb 8 (length s - at)) refl
  where
    by : (b : Bool) → leb 8 (length s - at) ≡ b → EntryTold s at e t
    by true q = let k : at + 8 ≤ length s = omega (arith, leb-true 8 (length s - at) q) in lists_told s at _ _ e t (sym (head s at k) ∙ h)
    by false q = let d = entry_none s at (leb-false 8 (length s - at) q) in absurd (let z : ◌≡◌ {A = ℕ} 0 1 = cc in omega arith)

-- what the code is told of an entry
pub record EntryFound (s : List ℕ) (at : ℕ) (l : EntryLayout) : Type 0 where
  pub found : Entry
  pub is : entry (drop at s) ≡ read found (drop l.end s)
  pub layout : l ≡ placed at found
  pub on : at < l.end
  pub within : l.end ≤ length s

pub entry_found : (s : List ℕ) (at : ℕ) (l : EntryLayout) → Some l ≡ entry_at at (entry (drop at s)) → EntryFound s at l
unfolding entry_at
entry_found s at l h = by (entry (drop at s)) refl h
  where
    by : (p : Parsed Entry) → entry (drop at s) ≡ p → Some l ≡ entry_at at p → EntryFound s at l
    by short e k = absurd (let z : ◌≡◌ {A = ℕ} 0 1 = cc in omega arith)
    by (read f t) e k =
        let r = entry_told s at f t e in
        let d : l ≡ placed at f = cc in
        record { found = f; is = rw (d, ← r.rest) e; layout = d; on = rw d (omega (arith, r.on)); within = rw d r.within }

pub entry_short : (s : List ℕ) (at : ℕ) → None ≡ entry_at at (entry (drop at s)) → entry (drop at s) ≡ short
unfolding entry_at
entry_short s at h = by (entry (drop at s)) refl h
  where
    by : (p : Parsed Entry) → entry (drop at s) ≡ p → None ≡ entry_at at p → entry (drop at s) ≡ short
    by short e k = e
    by (read f t) e k = absurd (let z : ◌≡◌ {A = ℕ} 0 1 = cc in omega arith)
