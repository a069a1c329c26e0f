-- The check of one entry, and a turn of the check of all. Assumes nothing.
use Rattle.std.specs.Prelude.{◌≡◌, refl, Bool, true, false, ℕ, ◌+◌, ◌-◌, ◌≤◌, ◌<◌, leb, eqb, drop, ◌||◌, ◌++◌, Option, Some, None, Result, Ok, Err}
use Rattle.std.specs.List.{list_any}
use Rattle.std.proofs.Common.{sym, ◌∙◌, arith}
use Rattle.std.proofs.Math.Path.{ap}
use mathlib.Core.List.{List, [], ◌∷◌}
use Rattle.words.specs.Choice.{pick, either}
use Rattle.words.specs.Lists.{member}
use Rattle.container.specs.Container.{Entry, slot_count}
use Rattle.container.specs.Reader.{short, read, entry, entries}
use Rattle.container.specs.Entries.{placed, slots_of}
use Rattle.container.specs.EntryToldLaws.{EntryFound}
use Rattle.container.specs.EntriesLaws.{entries_more, no_more, entries_cons}
use Rattle.starts.specs.Marks.{marked, Holds}
use Rattle.container_verify.specs.Verify.{entry_refusal, first_refusal, entries_refusal}
use Rattle.container_verify.specs.Checks.{as_check, Answers}
use Rattle.container.specs.declared.entries.EntryLayout.{EntryLayout}
use Rattle.container_verify.specs.declared.verify.VerifyError.{VerifyError}
use Rattle.container_verify.specs.declared.verify.VerifyError.TheVariants.{EntryOffsetMisaligned, DuplicateSelector, AccessListTooLarge}

-- ---- the selectors seen

-- the list's own test of membership
pub any_member : (x : ℕ) (seen : List ℕ) → list_any (λ y. eqb y x) seen ≡ member x seen
unfolding member
any_member x [] = refl
any_member x (y ∷ ys) = by (eqb y x) (any_member x ys)
  where
    by : (t : Bool) → list_any (λ y. eqb y x) ys ≡ member x ys → (t || list_any (λ y. eqb y x) ys) ≡ either t (member x ys)
    by true h = refl
    by false h = h

-- one selector more at the end
member_push : (k x : ℕ) (seen : List ℕ) → either (eqb x k) (member k seen) ≡ member k (seen ++ x ∷ [])
unfolding member
member_push k x [] = refl
member_push k x (y ∷ ys) = swap (eqb x k) (eqb y k) (member k ys) ∙ ap (either (eqb y k)) (member_push k x ys)
  where
    swap : (a b c : Bool) → either a (either b c) ≡ either b (either a c)
    swap true true c = refl
    swap true false c = refl
    swap false b c = refl

-- ---- what an answer says of a check

pub passed : (o : Option VerifyError) → Ok tt ≡ as_check o → o ≡ None
unfolding as_check
passed None h = refl
passed (Some e) h = absurd (let z : ◌≡◌ {A = ℕ} 0 1 = cc in omega arith)

pub failed : (o : Option VerifyError) (e : VerifyError) → Err e ≡ as_check o → o ≡ Some e
unfolding as_check
failed None e h = absurd (let z : ◌≡◌ {A = ℕ} 0 1 = cc in omega arith)
failed (Some x) e h = let k : x ≡ e = cc in rw k

-- ---- one entry

-- what three tests decide
abbrev pub check_by : (known start few : Bool) → (selector : ℕ) → Result Unit VerifyError
check_by known start few selector =
    pick known (Err (DuplicateSelector selector))
    (pick start (pick few (Ok tt) (Err (AccessListTooLarge selector))) (Err (EntryOffsetMisaligned selector)))

check_by_lem : (a b c : Bool) (k : ℕ) →
    as_check (pick a (Some (DuplicateSelector k)) (pick b (pick c None (Some (AccessListTooLarge k))) (Some (EntryOffsetMisaligned k)))) ≡ check_by a b c k
unfolding as_check
check_by_lem true b c k = refl
check_by_lem false true true k = refl
check_by_lem false true false k = refl
check_by_lem false false c k = refl

pub by_tests : (map seen : List ℕ) (l : EntryLayout) (a b c : Bool) → member l.selector seen ≡ a → marked map l.offset ≡ b → leb (slots_of l) 4096 ≡ c
    → Answers map seen l (check_by a b c l.selector)
unfolding entry_refusal slot_count placed
by_tests map seen l a b c p r u =
    λ starts at x h e. rw (← p, ← r, ← u, h.at l.offset, e)
    (sym (check_by_lem (member x.selector seen) (member x.offset starts) (leb (slot_count x) 4096) x.selector))

-- ---- entries in order

-- the entries ahead, and that they decide after the selectors known
pub record Between (s : List ℕ) (es : List Entry) (t starts : List ℕ) (more at : ℕ) (known : List ℕ) : Type 0 where
  pub ahead : List Entry
  pub after : entries more (drop at s) ≡ read ahead t
  pub decides : entries_refusal [] starts es ≡ entries_refusal known starts ahead

-- the selectors seen are those known, in the other order
pub record Checking (s map : List ℕ) (first n more at : ℕ) (seen : List ℕ) : Type 0 where
  pub known : List ℕ
  pub same : (k : ℕ) → member k known ≡ member k seen
  pub left : (es : List Entry) (t starts : List ℕ) → entries n (drop first s) ≡ read es t → Holds map starts → Between s es t starts more at known

pub check_begins : (s map : List ℕ) (first n : ℕ) → Checking s map first n n first []
check_begins s map first n = record { known = []; same = λ k. refl; left = λ es t starts k m. record { ahead = es; after = k; decides = refl } }

module _ (s map : List ℕ) (first n more at : ℕ) (seen : List ℕ) (c : Checking s map first n more at seen) where
  module _ (es : List Entry) (t starts : List ℕ) (k : entries n (drop first s) ≡ read es t) (m : Holds map starts) where
    pub all_checked : more ≤ 0 → Ok tt ≡ as_check (entries_refusal [] starts es)
    unfolding as_check entries_refusal
    all_checked h =
        let x = c.left es t starts k m in
        let e = x.after in
        let f = no_more more (drop at s) h in
        let a : x.ahead ≡ [] = cc in
        rw (x.decides, a)

    pub none_short : 0 < more → entry (drop at s) ≡ short → ⊥
    none_short h e =
        let x = c.left es t starts k m in
        let a : short ≡ read x.ahead t = sym (rw e at (entries_more more (drop at s) h)) ∙ x.after in
        let z : ◌≡◌ {A = ℕ} 0 1 = cc in
        omega arith

  module _ (h : 0 < more) (l : EntryLayout) (f : EntryFound s at l) (r : Result Unit VerifyError) (a : Answers map seen l r) where
    answer : (starts : List ℕ) → Holds map starts → r ≡ as_check (entry_refusal c.known starts f.found)
    unfolding entry_refusal
    answer starts m = rw (c.same f.found.selector) (a starts at f.found m f.layout)

    pub check_failed : (e : VerifyError) → r ≡ Err e → (es : List Entry) (t starts : List ℕ) → entries n (drop first s) ≡ read es t → Holds map starts →
        Err e ≡ as_check (entries_refusal [] starts es)
    unfolding as_check entries_refusal first_refusal
    check_failed e q es t starts k m =
        let x = c.left es t starts k m in
        let y = entries_cons s more at l f x.ahead t h x.after in
        rw (x.decides, y.is, failed (entry_refusal c.known starts f.found) e (sym q ∙ answer starts m))

    pub check_on : r ≡ Ok tt → (others : ℕ) → others + 1 ≡ more → Checking s map first n others l.end (seen ++ l.selector ∷ [])
    unfolding member entries_refusal first_refusal placed
    check_on q others o = record {
      known = l.selector ∷ c.known;
      same = λ k. rw (c.same k) (member_push k l.selector seen);
      left = λ es t starts k m.
          let x = c.left es t starts k m in
          let y = entries_cons s more at l f x.ahead t h x.after in
          let g : more - 1 ≡ others = omega arith in
          record {
            ahead = y.tail;
            after = rw g at y.others;
            decides = x.decides ∙ ap (entries_refusal c.known starts) y.is
                ∙ rw (passed (entry_refusal c.known starts f.found) (sym q ∙ answer starts m))
                (ap (λ (o : EntryLayout). entries_refusal (o.selector ∷ c.known) starts y.tail) (sym f.layout));
          };
    }
