-- A turn of the search for the one entry with a selector, and what its answer says. Assumes nothing.
use Rattle.std.specs.Prelude.{◌≡◌, refl, Bool, true, false, ℕ, ◌-◌, ◌≤◌, ◌<◌, eqb, drop, Option, Some, None, Result, Ok, Err}
use Rattle.std.proofs.Math.Path.{sym, ap}
use Rattle.std.proofs.Common.{subst, ◌∙◌, arith, eq-eqb, ne_eqb}
use mathlib.Core.List.{List, [], ◌∷◌}
use Rattle.words.specs.Choice.{pick}
use Rattle.container.specs.Container.{Entry}
use Rattle.container.specs.Reader.{short, read, entry, entries}
use Rattle.container.specs.Entries.{placed, found_in}
use Rattle.container.specs.EntryToldLaws.{EntryFound}
use Rattle.container.specs.EntriesLaws.{entries_more, no_more, entries_cons}
use Rattle.container.specs.declared.entries.EntryLayout.{EntryLayout}
use Rattle.opening.specs.Opening.{matching}
use Rattle.opening.specs.Parts.{SoughtTold}
use Rattle.opening.specs.declared.unique_entry.NotOne.{NotOne}

-- what a search for the first entry with a selector tells of those that have it
pub record OneOrMore (es : List Entry) : Type 0 where
  pub first : Entry
  pub rest : List Entry
  pub is : es ≡ first ∷ rest

abbrev pub FoundTold : Option EntryLayout → List Entry → Type 0
FoundTold (Some l) es = OneOrMore es
FoundTold None es = es ≡ []

found_matching : (selector at : ℕ) (es : List Entry) → FoundTold (found_in selector at es) (matching selector es)
unfolding found_in matching
found_matching selector at [] = refl
found_matching selector at (e ∷ es) = by (eqb e.selector selector) (found_matching selector (placed at e).end es)
  where
    by : (t : Bool) → FoundTold (found_in selector (placed at e).end es) (matching selector es) →
        FoundTold (pick t (Some (placed at e)) (found_in selector (placed at e).end es)) (pick t (e ∷ matching selector es) (matching selector es))
    by true h = record { first = e; rest = matching selector es; is = refl }
    by false h = h

-- an entry is the first with a selector, and what a search behind it found
pub record Behind (selector : ℕ) (es : List Entry) (e : Entry) (r : Option EntryLayout) : Type 0 where
  pub tail : List Entry
  pub is : matching selector es ≡ e ∷ matching selector tail
  pub told : FoundTold r (matching selector tail)

-- another one behind it makes two
abbrev pub sought_by : EntryLayout → Option EntryLayout → Result EntryLayout NotOne
sought_by l (Some m) = Err NotOne.Twice
sought_by l None = Ok l

-- some entries are left, and all that have the selector are among them
pub record MatchesLeft (s : List ℕ) (selector : ℕ) (es : List Entry) (t : List ℕ) (at more : ℕ) : Type 0 where
  pub ahead : List Entry
  pub is : entries more (drop at s) ≡ read ahead t
  pub decides : matching selector es ≡ matching selector ahead

pub record Seeking (s : List ℕ) (selector first n at more : ℕ) : Type 0 where
  pub left : (es : List Entry) (t : List ℕ) → entries n (drop first s) ≡ read es t → MatchesLeft s selector es t at more

pub seek_begins : (s : List ℕ) (selector first n : ℕ) → Seeking s selector first n first n
seek_begins s selector first n = record { left = λ es t k. record { ahead = es; is = k; decides = refl } }

module _ {s : List ℕ} {selector first n at more : ℕ} (i : Seeking s selector first n at more) where
  pub none_short : 0 < more → entry (drop at s) ≡ short → (es : List Entry) (t : List ℕ) → entries n (drop first s) ≡ read es t → ⊥
  none_short h e es t k =
      let x = i.left es t k in
      let a : short ≡ read x.ahead t = sym (rw e at (entries_more more (drop at s) h)) ∙ x.is in
      let z : ◌≡◌ {A = ℕ} 0 1 = cc in
      omega arith

  pub none_left : more ≤ 0 → (es : List Entry) (t : List ℕ) → entries n (drop first s) ≡ read es t → SoughtTold s selector es (Err NotOne.Missing)
  unfolding matching
  none_left h es t k =
      let x = i.left es t k in
      let e = x.is in
      let f = no_more more (drop at s) h in
      let a : [] ≡ x.ahead = cc in
      x.decides ∙ ap (matching selector) (sym a)

  module _ (h : 0 < more) (l : EntryLayout) (f : EntryFound s at l) where
    -- the entry has the selector, and those behind it are searched
    module _ (q : l.selector ≡ selector) (r : Option EntryLayout)
        (behind : (es : List Entry) (t : List ℕ) → entries (more - 1) (drop l.end s) ≡ read es t → r ≡ found_in selector l.end es)
        (es : List Entry) (t : List ℕ) (k : entries n (drop first s) ≡ read es t) where
      here : Behind selector es f.found r
      unfolding matching placed
      here =
          let x = i.left es t k in
          let y = entries_cons s more at l f x.ahead t h x.is in
          let a : f.found.selector ≡ selector = sym (ap (λ (m : EntryLayout). m.selector) f.layout) ∙ q in
          record {
            tail = y.tail;
            is = x.decides ∙ ap (matching selector) y.is ∙ rw (eq-eqb f.found.selector selector a);
            told = rw (behind y.tail t y.others) (found_matching selector l.end y.tail);
          }

      pub matched : (o : Option EntryLayout) → r ≡ o → SoughtTold s selector es (sought_by l o)
      matched o e = by o (subst (λ (o : Option EntryLayout). Behind selector es f.found o) e here)
        where
          by : (o : Option EntryLayout) → Behind selector es f.found o → SoughtTold s selector es (sought_by l o)
          by (Some m) b = record {
            one = f.found;
            other = b.told.first;
            rest = b.told.rest;
            is = b.is ∙ ap (λ (m : List Entry). f.found ∷ m) b.told.is;
          }
          by None b = record { at = at; entry = f; is = b.is ∙ ap (λ (m : List Entry). f.found ∷ m) b.told }

    pub seek_on : (l.selector ≡ selector → ⊥) → Seeking s selector first n l.end (more - 1)
    unfolding matching placed
    seek_on q = record { left = λ es t k. by es t (i.left es t k) }
      where
        by : (es : List Entry) (t : List ℕ) → MatchesLeft s selector es t at more → MatchesLeft s selector es t l.end (more - 1)
        by es t x =
            let y = entries_cons s more at l f x.ahead t h x.is in
            let b : l.selector ≡ f.found.selector = ap (λ (m : EntryLayout). m.selector) f.layout in
            let a : matching selector x.ahead ≡ matching selector y.tail = ap (matching selector) y.is ∙ rw (ne_eqb f.found.selector selector (λ e. q (b ∙ e))) in
            record { ahead = y.tail; is = y.others; decides = x.decides ∙ a }
