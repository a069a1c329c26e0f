-- Rows put into rows one by one, and what each way out of a merge answers and leaves. Assumes nothing.
use Rattle.std.proofs.Math.Path.{◌≡◌, sym, ap}
use Rattle.std.specs.Prelude.{refl, not, ℕ, ◌+◌, ◌*◌, ◌/◌, ◌≤◌, ◌<◌, Option, Some, None, Result, Ok, Err, is_some}
use Rattle.std.proofs.Common.{◌∙◌, subst, length-append, take_all, drop_at}
use mathlib.Core.List.{List, [], ◌∷◌, ◌++◌}
use native.Mathlib.Omega.{arith}
use Rattle.std.proofs.Math.ListN.{length, drop}
use Rattle.std.proofs.Math.Seq.{paste}
use borrow.Author.Tests.{le-leb, lt-leb}
use Rattle.std.specs.Option.{unwrap_or}
use Rattle.words.specs.Bytes.{Bytes}
use Rattle.words.specs.ChoiceLaws.{bit_small}
use Rattle.tables.specs.Rows.{Row, row_in, rows, bytes_of, insert, lookup}
use Rattle.tables.specs.RowsTheorems.{length_insert}
use Rattle.tables.specs.LayoutLaws.{rows_length, rows_front}
use Rattle.tables.specs.StoreLaws.{drop_beyond}
use Rattle.tables.specs.Table.{Table, Inserted, stored_of}
use Rattle.tables.specs.TableTheorems.{held_bytes, inserted_table}
use Rattle.changes.specs.ChangeList.{list_output_by}
use Rattle.changes.specs.Merge.{merged, merged_in, merge_answer, merge_output}
use Rattle.changes.specs.RowPut.{RowPut}
use Rattle.changes.specs.LeftLaws.{whole_rows, rows_none, next_rows}
use Rattle.changes.specs.declared.ChangeError.{ChangeError}

-- a row put in makes one row more at most
grows : (x : Row) (rs : List Row) → (length rs ≤ length (insert x rs)) × (length (insert x rs) ≤ length rs + 1)
grows x rs =
    let n = length_insert x rs in
    let b = bit_small (not (is_some (lookup x.key rs))) in
    (omega arith, omega arith)

merged_length : (cs ss : List Row) → (length ss ≤ length (merged cs ss)) × (length (merged cs ss) ≤ length ss + length cs)
unfolding merged
merged_length [] ss = (omega arith, omega arith)
merged_length (c ∷ cs) ss =
    let (a, b) = grows c ss in
    let (l, h) = merged_length cs (insert c ss) in
    (omega arith, omega arith)

module _ (x : Row) (t u : List ℕ) (m : ℕ) (tb : Table 40 m t) (s : Option ℕ) (i : Inserted 40 m x t u s) where
  -- there is room
  counted : (m + 1) * 40 ≤ length t → s ≡ Some (length (insert x (rows 40 m t)))
  unfolding stored_of
  counted h =
      let (a, b) = grows x (rows 40 m t) in
      let c = rows_length 40 m t in
      i.answer ∙ rw (le-leb (length (insert x (rows 40 m t)) * 40) (length t) (omega arith))

  pub put_counted : (r : ℕ) → r ≡ unwrap_or s m → (m + 1) * 40 ≤ length t → length u ≡ length t → RowPut x m t u r
  put_counted r e h l =
      let q : s ≡ Some r = counted h ∙ ap Some (sym (e ∙ ap (λ (o : Option ℕ). unwrap_or o m) (counted h))) in
      let k = subst (λ (o : Option ℕ). Inserted 40 m x t u o) q i in
      let n : r ≡ length (insert x (rows 40 m t)) = sym (rows_length 40 r u) ∙ ap length k.bytes.0 in
      let (a, b) = grows x (rows 40 m t) in
      let c = rows_length 40 m t in
      record { table = inserted_table 40 m r x t u tb l k; is = k.bytes.0; rest = k.bytes.1; least = omega arith; most = omega arith }

-- t has k rows now, and the rows in the bytes r that are left of the n rows `all` decide
pub record Putting (all : List Row) (n : ℕ) (t₀ : List ℕ) (m : ℕ) (t : List ℕ) (k : ℕ) (r : List ℕ) : Type 0 where
  pub table : Table 40 k t
  pub least : m ≤ k
  pub most : k * 40 + length r ≤ (m + n) * 40
  pub same : merged all (rows 40 m t₀) ≡ merged (whole_rows r) (rows 40 k t)
  pub rest : drop (k * 40) t ≡ drop (k * 40) t₀
  pub size : length t ≡ length t₀

module _ {all : List Row} {n : ℕ} {t₀ : List ℕ} {m : ℕ} where
  pub putting_start : (r : List ℕ) → Table 40 m t₀ → whole_rows r ≡ all → length r ≡ n * 40 → Putting all n t₀ m t₀ m r
  putting_start r tb e l = record {
    table = tb;
    least = omega arith;
    most = omega arith;
    same = ap (λ (cs : List Row). merged cs (rows 40 m t₀)) (sym e);
    rest = refl;
    size = refl;
  }

  module _ {t : List ℕ} {k : ℕ} {r : List ℕ} (p : Putting all n t₀ m t k r) where
    pub putting_turn : (x v u : List ℕ) (j : ℕ) → r ≡ x ++ v → length x ≡ 40 → length u ≡ length t → RowPut (row_in 40 x) k t u j
        → Putting all n t₀ m u j v
    unfolding merged
    putting_turn x v u j e l z w = record {
      table = w.table;
      least = omega (arith, p.least, w.least);
      most = omega (arith, p.most, w.most, ap length e, length-append x v);
      same = p.same ∙ ap (λ (cs : List Row). merged cs (rows 40 k t)) (next_rows r x v e l) ∙ ap (merged (whole_rows v)) (sym w.is);
      rest = w.rest ∙ drop_beyond (k * 40) (j * 40) t t₀ (omega (arith, w.least)) p.rest;
      size = z ∙ p.size;
    }

    -- all are in
    pub putting_end : length r < 40 → (rows 40 k t ≡ merged all (rows 40 m t₀)) × (drop (k * 40) t ≡ drop (k * 40) t₀)
    unfolding merged
    putting_end h = (sym (p.same ∙ ap (λ (cs : List Row). merged cs (rows 40 k t)) (rows_none r h)), p.rest)

-- a store copied to the front of the output
module _ (store out t : List ℕ) (n : ℕ) (l : length store ≡ n * 40) (e : t ≡ paste out 0 store (length store)) where
  front : t ≡ store ++ drop (n * 40) out
  front =
      let z : 0 + length store ≡ n * 40 = omega arith in
      e ∙ (λ i. take_all (length store) store (omega arith) i ++ drop (z i) out)

  pub copied_rows : rows 40 n t ≡ rows 40 n store
  copied_rows = ap (rows 40 n) front ∙ rows_front 40 n store (drop (n * 40) out) (omega arith) (omega arith)

  pub copied_table : n * 40 ≤ length t → Table 40 n store → Table 40 n t
  copied_table h tb = record { wide = omega arith; fits = h; rising = rw copied_rows tb.rising }

  pub copied_rest : drop (n * 40) t ≡ drop (n * 40) out
  copied_rest = ap (drop (n * 40)) front ∙ drop_at store (drop (n * 40) out) (n * 40) l

-- the answer and the output that two tables determine
abbrev pub Merges : (cs ss : Option (List Row)) (out after : List ℕ) → Result ℕ ChangeError → Type 0
Merges cs ss out after r = (r ≡ merge_answer cs ss out) × (after ≡ merge_output cs ss out)

pub merges_none : (ss : Option (List Row)) (out : List ℕ) → Merges None ss out out (Err ChangeError.BadTable)
unfolding merge_answer merge_output merged_in list_output_by
merges_none ss out = (refl, refl)

pub merges_bad : (cs : Option (List Row)) (out : List ℕ) → Merges cs None out out (Err ChangeError.BadTable)
unfolding merge_answer merge_output merged_in list_output_by
merges_bad None out = (refl, refl)
merges_bad (Some cs) out = (refl, refl)

module _ (cs ss : List Row) (out : List ℕ) (n ns : ℕ) (a : length cs ≡ n) (b : length ss ≡ ns) where
  pub merges_short : length out / 40 < ns + n → Merges (Some cs) (Some ss) out out (Err ChangeError.NoRoom)
  unfolding merge_answer merge_output merged_in list_output_by
  merges_short h =
      let f = lt-leb ((length ss + length cs) * 40) (length out) (omega arith) in
      (rw f, rw f)

  pub merges_rows : ns + n ≤ length out / 40 → (t u : List ℕ) (k : ℕ) → length u ≡ length out → Bytes u → drop (ns * 40) t ≡ drop (ns * 40) out
      → rows 40 k u ≡ merged cs ss → drop (k * 40) u ≡ drop (k * 40) t → Merges (Some cs) (Some ss) out u (Ok k)
  unfolding merge_answer merge_output merged_in list_output_by
  merges_rows h t u k z by d r e =
      let (lo, hi) = merged_length cs ss in
      let c : k ≡ length (merged cs ss) = sym (rows_length 40 k u) ∙ ap length r in
      let f = le-leb ((length ss + length cs) * 40) (length out) (omega arith) in
      let g : drop (k * 40) u ≡ drop (k * 40) out = e ∙ drop_beyond (ns * 40) (k * 40) t out (omega arith) d in
      let w : u ≡ bytes_of 40 (merged cs ss) ++ drop (k * 40) out =
      sym (held_bytes 40 k u by (omega arith) (omega arith)) ∙ (λ i. bytes_of 40 (r i) ++ g i) in
      (rw f (ap Ok c), rw f (w ∙ ap (λ (j : ℕ). bytes_of 40 (merged cs ss) ++ drop (j * 40) out) c))

-- a merge of equal tables is the same
pub merges_as : {cs ds ss ts : Option (List Row)} (out after : List ℕ) (r : Result ℕ ChangeError) → cs ≡ ds → ss ≡ ts →
    Merges ds ts out after r → Merges cs ss out after r
merges_as out after r p q x = rw (p, q) x
