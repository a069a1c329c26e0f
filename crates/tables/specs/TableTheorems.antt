-- A table's bytes are its rows' bytes and the rest, and a row put in leaves a table, one outcome only. Assumes nothing.
use Rattle.std.specs.Prelude.{◌≡◌, refl, Bool, true, false, not, List, ◌++◌, ℕ, zero, suc, ◌+◌, ◌*◌, ◌-◌, ◌≤◌, length, take, drop, leb, Option, Some, None, is_some}
use Rattle.std.proofs.Common.{sym, ap, ◌∙◌, subst, append_assoc, arith, suc-mul, zero-mul, mul-le-mul_right, take-append-drop, length-drop, drop-drop, get_or-drop, leb-true}
use Rattle.words.specs.Bytes.{be_bytes, Bytes}
use Rattle.words.specs.Choice.{pick}
use Rattle.words.proofs.BytesTheorems.{write_back}
use Rattle.tables.specs.Rows.{Row, row_in, rows, bytes_of, insert, lookup}
use Rattle.tables.specs.Table.{Table, After, stored_of, Inserted}
use Rattle.tables.specs.LayoutLaws.{rows_length}
use Rattle.tables.specs.StoreLaws.{drop_beyond}
use Rattle.tables.specs.RowsTheorems.{rising_insert, length_insert}
use Rattle.words.specs.ChoiceLaws.{bit_small}

-- a row's bytes are those of its key and of its value
row_bytes : (w : ℕ) (t : List ℕ) → Bytes t → 32 ≤ w → w ≤ length t → be_bytes 32 (row_in w t).key ++ (be_bytes (w - 32) (row_in w t).value ++ drop w t) ≡ t
unfolding row_in
row_bytes w t b h l =
    let k = write_back 32 t (omega arith) b in
    let v = write_back (w - 32) (drop 32 t) (omega (arith, length-drop 32 t)) (λ i. rw get_or-drop (b (32 + i))) in
    let n : 32 + (w - 32) ≡ w = omega arith in
    let d : drop w t ≡ drop (w - 32) (drop 32 t) = sym (drop-drop (w - 32) 32 t ∙ ap (λ (a : ℕ). drop a t) n) in
    (λ i. k i ++ (v i ++ d i)) ∙ ap (λ (a : List ℕ). take 32 t ++ a) (take-append-drop (w - 32) (drop 32 t)) ∙ take-append-drop 32 t

-- bytes are the bytes of the rows, then the rest
pub held_bytes : (w n : ℕ) (t : List ℕ) → Bytes t → 32 ≤ w → n * w ≤ length t → bytes_of w (rows w n t) ++ drop (n * w) t ≡ t
unfolding bytes_of rows
held_bytes w zero t b h l = rw zero-mul
held_bytes w (suc n) t b h l =
    let s : w + n * w ≡ suc n * w = omega (arith, suc-mul n w) in
    let ih = held_bytes w n (drop w t) (λ i. rw get_or-drop (b (w + i))) h (omega (arith, length-drop w t)) in
    let j : drop (suc n * w) t ≡ drop (n * w) (drop w t) = sym (drop-drop (n * w) w t ∙ ap (λ (a : ℕ). drop a t) s) in
    let k : List ℕ = be_bytes 32 (row_in w t).key in
    let v : List ℕ = be_bytes (w - 32) (row_in w t).value in
    let rest : List ℕ = bytes_of w (rows w n (drop w t)) in
    append_assoc k (v ++ rest) (drop (suc n * w) t)
    ∙ ap (λ (a : List ℕ). k ++ a) (append_assoc v rest (drop (suc n * w) t) ∙ (λ i. v ++ (rest ++ j i)) ∙ ap (λ (a : List ℕ). v ++ a) ih)
    ∙ row_bytes w t b h (omega arith)

-- rows and rest fix the bytes
pub same_bytes : (w n : ℕ) (t u : List ℕ) → 32 ≤ w → n * w ≤ length t → n * w ≤ length u → Bytes t → Bytes u → rows w n t ≡ rows w n u
    → drop (n * w) t ≡ drop (n * w) u → t ≡ u
same_bytes w n t u h lt lu bt bu r d = sym (held_bytes w n t bt h lt) ∙ (λ i. bytes_of w (r i) ++ d i) ∙ held_bytes w n u bu h lu

-- the answer that a contract allows is one of two, with its bytes
data Case (w : ℕ) (rs : List Row) (t u : List ℕ) (r : Option ℕ) : Type 0 where
  fitted : length rs * w ≤ length t → r ≡ Some (length rs) → rows w (length rs) u ≡ rs → drop (length rs * w) u ≡ drop (length rs * w) t → Case w rs t u r
  refused : r ≡ None → u ≡ t → Case w rs t u r

case : (w : ℕ) (rs : List Row) (t u : List ℕ) (r : Option ℕ) → r ≡ stored_of w rs t → After r w rs t u → Case w rs t u r
unfolding stored_of
case w rs t u r a b = go (leb (length rs * w) (length t)) refl
  where
    go : (c : Bool) → leb (length rs * w) (length t) ≡ c → Case w rs t u r
    go true e =
        let q : r ≡ Some (length rs) = a ∙ ap (λ (c : Bool). pick c (Some (length rs)) None) e in
        let k = subst (λ (o : Option ℕ). After o w rs t u) q b in
        fitted (leb-true (length rs * w) (length t) e) q k.0 k.1
    go false e =
        let q : r ≡ None = a ∙ ap (λ (c : Bool). pick c (Some (length rs)) None) e in
        refused q (subst (λ (o : Option ℕ). After o w rs t u) q b)

-- a row that was put in leaves a table of as many rows as is said
pub inserted_table : (w n m : ℕ) (x : Row) (t u : List ℕ) → Table w n t → length u ≡ length t → Inserted w n x t u (Some m) → Table w m u
inserted_table w n m x t u tb lu i = go (case w (insert x (rows w n t)) t u (Some m) i.answer i.bytes)
  where
    go : Case w (insert x (rows w n t)) t u (Some m) → Table w m u
    go (fitted l q r d) =
        let e : length (insert x (rows w n t)) ≡ m = cc in
        rw (← e) (record { wide = tb.wide; fits = rw lu l; rising = rw r (rising_insert 0 x (rows w n t) (omega arith) tb.rising) })
    go (refused q r) = absurd cc

-- bytes past the rows, and one row more, are as they were, refused or not
pub past_rows : (w n : ℕ) (x : Row) (t u : List ℕ) (r : Option ℕ) → Inserted w n x t u r → drop (suc n * w) u ≡ drop (suc n * w) t
past_rows w n x t u r i = go (case w (insert x (rows w n t)) t u r i.answer i.bytes)
  where
    go : Case w (insert x (rows w n t)) t u r → drop (suc n * w) u ≡ drop (suc n * w) t
    go (fitted l q e d) =
        let m : length (insert x (rows w n t)) ≤ suc n =
        omega (arith, length_insert x (rows w n t), rows_length w n t, bit_small (not (is_some (lookup x.key (rows w n t))))) in
        drop_beyond (length (insert x (rows w n t)) * w) (suc n * w) u t (mul-le-mul_right w m) d
    go (refused q e) = ap (drop (suc n * w)) e

-- whatever `insert` is allowed to leave, there is one answer and one list of bytes
pub inserted_once : (w n : ℕ) (x : Row) (t u v : List ℕ) (r s : Option ℕ) → 32 ≤ w → length u ≡ length t → length v ≡ length t → Bytes u → Bytes v
    → Inserted w n x t u r → Inserted w n x t v s → (r ≡ s) × (u ≡ v)
inserted_once w n x t u v r s h lu lv p q a b =
    (same, go (case w (insert x (rows w n t)) t u r a.answer a.bytes) (case w (insert x (rows w n t)) t v s b.answer b.bytes))
  where
    same : r ≡ s
    same = a.answer ∙ sym b.answer

    clash : {m : ℕ} {o p : Option ℕ} → o ≡ p → o ≡ Some m → p ≡ None → u ≡ v
    clash g e f = absurd cc

    go : Case w (insert x (rows w n t)) t u r → Case w (insert x (rows w n t)) t v s → u ≡ v
    go (fitted l e f d) (fitted l2 e2 f2 d2) =
        same_bytes w (length (insert x (rows w n t))) u v h (omega arith) (omega arith) p q (f ∙ sym f2) (d ∙ sym d2)
    go (fitted l e f d) (refused e2 f2) = clash same e e2
    go (refused e f) (fitted l2 e2 f2 d2) = clash (sym same) e2 e
    go (refused e f) (refused e2 f2) = f ∙ sym f2
