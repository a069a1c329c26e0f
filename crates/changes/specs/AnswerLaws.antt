-- What each way out of the change list answers and leaves. Assumes nothing.
use Rattle.std.specs.Prelude.{◌≡◌, refl, Bool, true, false, List, ℕ, ◌*◌, ◌/◌, ◌≤◌, ◌<◌, length, leb, Option, Some, None, Result, Ok, Err}
use Rattle.std.proofs.Common.{sym, ap, ◌∙◌, subst, arith, le-leb}
use Rattle.std.proofs.lemmas.Bool.{lt-leb}
use Rattle.std.specs.Option.{ok_or}
use Rattle.words.specs.ChoiceLaws.{both_false}
use Rattle.tables.specs.Rows.{Row, rows}
use Rattle.tables.specs.Table.{Table}
use Rattle.tables.specs.Content.{content}
use Rattle.tables.specs.declared.rows.Rows.{Rows}
use Rattle.tables.specs.CheckLaws.{rising_true, true_rising}
use Rattle.tables.specs.Checked.{risingb, checked_of, checked_if}
use Rattle.changes.specs.ChangeList.{ChangesLent, changed, rows_of, checked_loader, counted_rows, list_from, list_of, answer_of, list_output_by, list_output}
use Rattle.changes.specs.Changed.{written}
use Rattle.changes.specs.declared.ChangeError.{ChangeError}

-- the answer and the output that a list determines
abbrev pub Ends : Option (List Row) → (out after : List ℕ) → Result ℕ ChangeError → Type 0
Ends o out after r = (r ≡ answer_of o out) × (after ≡ list_output o out)

pub ends_bad : (o : Option (List Row)) (out : List ℕ) → o ≡ None → Ends o out out (Err ChangeError.BadTable)
unfolding answer_of list_output list_output_by
ends_bad o out e = (rw e, rw e)

pub ends_short : (rs : List Row) (out : List ℕ) (k : ℕ) → k ≡ length rs → length out / 40 < k → Ends (Some rs) out out (Err ChangeError.NoRoom)
unfolding answer_of list_output list_output_by
ends_short rs out k e h =
    let f : leb (length rs * 40) (length out) ≡ false = lt-leb (length rs * 40) (length out) (omega arith) in
    (rw f, rw f)

pub ends_rows : (rs : List Row) (out u : List ℕ) (k : ℕ) → k ≡ length rs → k ≤ length out / 40 → u ≡ written rs out → Ends (Some rs) out u (Ok k)
unfolding answer_of list_output list_output_by
ends_rows rs out u k e h p =
    let f : leb (length rs * 40) (length out) ≡ true = le-leb (length rs * 40) (length out) (omega arith) in
    (rw f (ap Ok e), rw f p)

-- the error that a `?` hands on
pub refused_by : {A : Type 0} (o : Option A) (e d : ChangeError) → Err d ≡ ok_or o e → d ≡ e
refused_by None e d q = cc
refused_by (Some n) e d q = absurd cc

-- the counted rows stand and rise, or they are none
module _ (t : List ℕ) (n : ℕ) where
  pub counted_table : n * 40 ≤ length t → true ≡ risingb 0 (rows 40 n t) → Table 40 n t
  counted_table h r = record { wide = omega arith; fits = h; rising = true_rising 0 (rows 40 n t) (sym r) }

  pub counted_is : Table 40 n t → counted_rows t n ≡ Some (rows 40 n t)
  unfolding counted_rows
  counted_is tb = rw (le-leb (n * 40) (length t) tb.fits, rising_true 0 (rows 40 n t) tb.rising)

  pub counted_long : length t < n * 40 → counted_rows t n ≡ None
  unfolding counted_rows
  counted_long h = rw (lt-leb (n * 40) (length t) h)

  pub counted_unsorted : false ≡ risingb 0 (rows 40 n t) → counted_rows t n ≡ None
  unfolding counted_rows
  counted_unsorted r = rw (← r, both_false (leb (n * 40) (length t)))

-- a table that was checked holds the rows; a loader that is absent has none
module _ (t : List ℕ) (c : Rows 40) (b : c.bytes.now ≡ t) where
  pub counted_some : (n : ℕ) → c.count ≡ n → counted_rows t n ≡ Some (content c)
  counted_some n k = (λ i. counted_rows (sym b i) (sym k i)) ∙ counted_is c.bytes.now c.count c.table

  pub stored_some : checked_of 40 t ≡ Some c.count → rows_of (checked_of 40 t) t ≡ Some (content c)
  unfolding rows_of
  stored_some e = ap (λ (o : Option ℕ). rows_of o t) e ∙ ap (λ (u : List ℕ). Some (rows 40 c.count u)) (sym b)

  pub loader_some : (has_loader : Bool) → checked_if has_loader 40 t ≡ Some c.count → checked_loader has_loader t ≡ Some (content c)
  unfolding checked_loader rows
  loader_some true e = stored_some e
  loader_some false e = let z : 0 ≡ c.count = cc in ap (λ (n : ℕ). Some (rows 40 n c.bytes.now)) z

pub stored_none : (t : List ℕ) → checked_of 40 t ≡ None → rows_of (checked_of 40 t) t ≡ None
unfolding rows_of
stored_none t e = rw e refl

pub loader_none : (has_loader : Bool) (t : List ℕ) → checked_if has_loader 40 t ≡ None → checked_loader has_loader t ≡ None
unfolding checked_loader
loader_none true t e = stored_none t e
loader_none false t e = absurd cc

-- the list, by its three tables
module _ (l : ChangesLent) where
  pub no_changes : counted_rows l.changes l.count ≡ None → list_of l ≡ None
  unfolding list_of list_from
  no_changes e = rw e

  module _ (cs : List Row) (c : counted_rows l.changes l.count ≡ Some cs) where
    pub no_store : rows_of (checked_of 40 l.store) l.store ≡ None → list_of l ≡ None
    unfolding list_of list_from
    no_store e = rw (c, e)

    module _ (ss : List Row) (s : rows_of (checked_of 40 l.store) l.store ≡ Some ss) where
      pub no_loader : checked_loader l.has_loader l.loader ≡ None → list_of l ≡ None
      unfolding list_of list_from
      no_loader e = rw (c, s, e)

      pub listed : (ls : List Row) → checked_loader l.has_loader l.loader ≡ Some ls → list_of l ≡ Some (changed ss ls cs)
      unfolding list_of list_from
      listed ls e = rw (c, s, e)

-- the ends of one list are those of an equal one
pub ends_as : (o p : Option (List Row)) (out after : List ℕ) (r : Result ℕ ChangeError) → o ≡ p → Ends p out after r → Ends o out after r
ends_as o p out after r e x = subst (λ (q : Option (List Row)). Ends q out after r) (sym e) x
