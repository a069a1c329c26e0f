-- A turn of the search for a selector, and what its answer says. Assumes nothing.
use Rattle.std.specs.Prelude.{◌≡◌, refl, Bool, true, false, ℕ, ◌+◌, ◌-◌, ◌≤◌, ◌<◌, eqb, drop, Option, Some, None, Result, Ok, Err}
use Rattle.std.specs.Option.{ok_or}
use Rattle.std.proofs.Math.Path.{sym, ap}
use Rattle.std.proofs.Common.{◌∙◌, arith, eq-eqb, ne_eqb}
use mathlib.Core.List.{List, [], ◌∷◌}
use Rattle.words.specs.Choice.{pick}
use Rattle.container.specs.Container.{Entry}
use Rattle.container.specs.Reader.{short, read, entry, entries, read_of, reading_of, layout_of}
use Rattle.container.specs.Entries.{placed, entry_at, found_in}
use Rattle.container.specs.EntryToldLaws.{EntryFound, entry_found, entry_short}
use Rattle.container.specs.EntriesLaws.{entries_more, no_more, entries_cons}
use Rattle.container.specs.Offsets.{offset_in, offset_of}
use Rattle.container.specs.ReadToldLaws.{ReadTold, refused_told}
use Rattle.container.specs.declared.reader.Layout.{Layout}
use Rattle.container.specs.declared.entries.EntryLayout.{EntryLayout}
use Rattle.container.specs.declared.reader.ReadError.{ReadError}
use Rattle.container.specs.declared.offsets.OffsetError.{OffsetError}

-- some entries are left, and in them the search is decided
pub record EntriesLeft (s : List ℕ) (selector first : ℕ) (es : List Entry) (t : List ℕ) (at more : ℕ) : Type 0 where
  pub ahead : List Entry
  pub is : entries more (drop at s) ≡ read ahead t
  pub decides : found_in selector first es ≡ found_in selector at ahead

pub record Searching (s : List ℕ) (selector first n at more : ℕ) : Type 0 where
  pub left : (es : List Entry) (t : List ℕ) → entries n (drop first s) ≡ read es t → EntriesLeft s selector first es t at more

module _ (s : List ℕ) (selector first n at more : ℕ) (i : Searching s selector first n at more) where
  module _ (es : List Entry) (t : List ℕ) (k : entries n (drop first s) ≡ read es t) where
    pub none_there : 0 < more → None ≡ entry_at at (entry (drop at s)) → None ≡ found_in selector first es
    none_there h e =
        let x = i.left es t k in
        let a : short ≡ read x.ahead t = sym (rw (entry_short s at e) at (entries_more more (drop at s) h)) ∙ x.is in
        absurd (let z : ◌≡◌ {A = ℕ} 0 1 = cc in omega arith)

    pub none_left : more ≤ 0 → None ≡ found_in selector first es
    unfolding found_in
    none_left h =
        let x = i.left es t k in
        let e = x.is in
        let f = no_more more (drop at s) h in
        let a : [] ≡ x.ahead = cc in
        sym (x.decides ∙ ap (found_in selector at) (sym a))

    pub found_here : 0 < more → (l : EntryLayout) → Some l ≡ entry_at at (entry (drop at s)) → l.selector ≡ selector → Some l ≡ found_in selector first es
    unfolding found_in placed
    found_here h l e q =
        let x = i.left es t k in
        let f = entry_found s at l e in
        let y = entries_cons s more at l f x.ahead t h x.is in
        let a : f.found.selector ≡ selector = sym (ap (λ (m : EntryLayout). m.selector) f.layout) ∙ q in
        sym (x.decides ∙ ap (found_in selector at) y.is ∙ rw (eq-eqb f.found.selector selector a) (ap Some (sym f.layout)))

  pub search_on : 0 < more → (l : EntryLayout) → Some l ≡ entry_at at (entry (drop at s)) → (l.selector ≡ selector → ⊥) → (others : ℕ) → others + 1 ≡ more →
      Searching s selector first n l.end others
  unfolding found_in placed
  search_on h l e q others o = record { left = λ es t k. by es t k (i.left es t k) }
    where
      f : EntryFound s at l
      f = entry_found s at l e

      by : (es : List Entry) (t : List ℕ) → entries n (drop first s) ≡ read es t → EntriesLeft s selector first es t at more →
          EntriesLeft s selector first es t l.end others
      by es t k x =
          let y = entries_cons s more at l f x.ahead t h x.is in
          let b : l.selector ≡ f.found.selector = ap (λ (m : EntryLayout). m.selector) f.layout in
          let a : found_in selector at x.ahead ≡ found_in selector (placed at f.found).end y.tail = ap (found_in selector at) y.is ∙ rw (ne_eqb f.found.selector selector (λ e. q (b ∙ e))) in
          let d : (placed at f.found).end ≡ l.end = sym (ap (λ (m : EntryLayout). m.end) f.layout) in
          let g : more - 1 ≡ others = omega arith in
          record { ahead = y.tail; is = rw g at y.others; decides = x.decides ∙ a ∙ ap (λ (e : ℕ). found_in selector e y.tail) d }

pub search_begins : (s : List ℕ) (selector first n : ℕ) → Searching s selector first n first n
search_begins s selector first n = record { left = λ es t k. record { ahead = es; is = k; decides = refl } }

-- the offset is the found entry's
abbrev pub offset_by : Option EntryLayout → Result ℕ OffsetError
offset_by (Some l) = Ok l.offset
offset_by None = Err OffsetError.UnknownSelector

offset_found : (selector at : ℕ) (es : List Entry) → offset_by (found_in selector at es) ≡ offset_in selector es
unfolding found_in offset_in placed
offset_found selector at [] = refl
offset_found selector at (e ∷ es) = by (eqb e.selector selector) (offset_found selector (placed at e).end es)
  where
    by : (t : Bool) → offset_by (found_in selector (placed at e).end es) ≡ offset_in selector es →
        offset_by (pick t (Some (placed at e)) (found_in selector (placed at e).end es)) ≡ pick t (Ok e.offset) (offset_in selector es)
    by true h = refl
    by false h = h

pub offset_unreadable : (s : List ℕ) (selector : ℕ) (e : ReadError) → Err e ≡ reading_of (read_of s) → Err (OffsetError.Unreadable e) ≡ offset_of selector (read_of s)
unfolding offset_of
offset_unreadable s selector e h = rw (refused_told s e h)

-- what the search among the entries that were read has found
module _ (s : List ℕ) (selector : ℕ) (l : Layout) (r : ReadTold s l) where
  module _ (f : Option EntryLayout) (g : (es : List Entry) (t : List ℕ) → entries l.entries (drop l.entries_at s) ≡ read es t → f ≡ found_in selector l.entries_at es) where
    offset_told : offset_by f ≡ offset_of selector (read_of s)
    unfolding offset_of layout_of
    offset_told =
        let e = g r.found.entries [] (rw r.layout r.body.entries) in
        rw (e, r.is) (offset_found selector l.entries_at r.found.entries)

    pub offset_missing : (e : OffsetError) → Err e ≡ ok_or f OffsetError.UnknownSelector → f ≡ None → Err e ≡ offset_of selector (read_of s)
    offset_missing e o n =
        let a : ◌≡◌ {A = Result EntryLayout OffsetError} (Err e) (Err OffsetError.UnknownSelector) = rw n at o in
        let b : e ≡ OffsetError.UnknownSelector = cc in
        rw b (rw n at offset_told)

    pub offset_done : (d : EntryLayout) → f ≡ Some d → Ok d.offset ≡ offset_of selector (read_of s)
    offset_done d n = rw n at offset_told
