-- Room for a row that may have to go in, and what putting it in leaves. Assumes nothing.
use Rattle.std.specs.Prelude.{◌≡◌, Bool, not, List, ℕ, zero, suc, ◌+◌, ◌*◌, ◌-◌, ◌≤◌, ◌<◌, length, drop, replicate, Option, Some, is_some}
use Rattle.std.proofs.Math.Path.{sym}
use Rattle.std.proofs.Common.{ap, ◌∙◌, subst, arith, mul-le-mul_right, drop-drop, le-leb}
use Rattle.std.proofs.Math.Bool.{true, false}
use Rattle.std.proofs.Math.Nat.{suc-mul, add-zero}
use Rattle.std.proofs.Math.Dec.{leb}
use Rattle.std.proofs.lemmas.Bool.{lt-leb}
use Rattle.std.specs.Option.{unwrap_or}
use Rattle.words.specs.Choice.{bit}
use Rattle.tables.specs.Rows.{Row, rows, insert, lookup}
use Rattle.tables.specs.Table.{Table, Inserted, stored_of}
use Rattle.tables.specs.LayoutLaws.{rows_length}
use Rattle.tables.specs.RowsTheorems.{length_insert}
use Rattle.tables.specs.TableTheorems.{inserted_table}
use Rattle.keys.specs.Values.{put_if}
use Rattle.keys.specs.Sound.{Held, PutIf, holds}

-- ---- room for a key

module _ (w n : ℕ) (t : List ℕ) (tb : Table w n t) where
  -- a table is within its bytes
  pub table_fits : leb (length (rows w n t) * w) (length t) ≡ true
  table_fits = rw (rows_length w n t) (le-leb (n * w) (length t) tb.fits)

  module _ (b : Bool) (x : Row) where
    pub room_off : b ≡ false → true ≡ holds w n b x t
    room_off e = rw e (sym table_fits)

    -- there is one row more exactly when the key is new
    more : (s : Bool) → ℕ
    more s = (n + bit (not s)) * w

    one_more : more false ≡ n * w + w
    unfolding more
    one_more = omega (arith, suc-mul n w)

    pub room_free : b ≡ true → w ≤ length t - n * w → true ≡ holds w n b x t
    unfolding more
    room_free e h = rw (e, length_insert x (rows w n t), rows_length w n t) (go (is_some (lookup x.key (rows w n t))))
      where
        go : (s : Bool) → true ≡ leb (more s) (length t)
        go false = sym (le-leb (more false) (length t) (omega (arith, one_more, tb.fits)))
        go true = rw add-zero (sym (le-leb (n * w) (length t) tb.fits))

    pub room_else : b ≡ true → length t - n * w < w → is_some (lookup x.key (rows w n t)) ≡ holds w n b x t
    unfolding more
    room_else e h = rw (e, length_insert x (rows w n t), rows_length w n t) (go (is_some (lookup x.key (rows w n t))))
      where
        go : (s : Bool) → s ≡ leb (more s) (length t)
        go false = sym (lt-leb (more false) (length t) (omega (arith, one_more, tb.fits)))
        go true = rw add-zero (sym (le-leb (n * w) (length t) tb.fits))

-- ---- a row put in, if so told

module _ (w n : ℕ) (t : List ℕ) (tb : Table w n t) (b : Bool) (x : Row) (u : List ℕ) (r : Option ℕ)
    (lu : length u ≡ length t) (a : Inserted w n x t u r) (on : b ≡ true) (fit : holds w n b x t ≡ true) where
  counted : r ≡ Some (length (insert x (rows w n t)))
  unfolding stored_of
  counted = let f : holds w n true x t ≡ true = rw on at fit in rw f at a.answer

  pub put_on : (m : ℕ) → m ≡ unwrap_or r n → PutIf w n m b x t u
  put_on m e =
      let q : r ≡ Some m = counted ∙ ap Some (sym (e ∙ ap (λ (o : Option ℕ). unwrap_or o n) counted)) in
      let i = subst (λ (o : Option ℕ). Inserted w n x t u o) q a in
      record { table = inserted_table w n m x t u tb lu i; are = rw on i.bytes.0; size = lu; rest = i.bytes.1 }

-- ---- zeroes after the rows stay

pub drop_zeroes : (a b : ℕ) → drop a (replicate {A = ℕ} b 0) ≡ replicate (b - a) 0
drop_zeroes zero b = ap (λ (n : ℕ). replicate n 0) (let e : b ≡ b - 0 = omega arith in e)
drop_zeroes (suc a) zero = ap (λ (n : ℕ). replicate n 0) (let e : 0 ≡ 0 - suc a = omega arith in e)
drop_zeroes (suc a) (suc b) = drop_zeroes a b ∙ ap (λ (n : ℕ). replicate n 0) (let e : b - a ≡ suc b - suc a = omega arith in e)

put_length : (b : Bool) (x : Row) (rs : List Row) → length rs ≤ length (put_if b x rs)
put_length true x rs = omega (arith, length_insert x rs)
put_length false x rs = omega arith

pub held_put : {w n m : ℕ} {b : Bool} {x : Row} {t u : List ℕ} → Held w n t → PutIf w n m b x t u → Held w m u
held_put {w} {n} {m} {b} {x} {t} {u} h p =
    let lm : length (rows w m u) ≡ m = rows_length w m u in
    let ln : length (rows w n t) ≡ n = rows_length w n t in
    let k : n ≤ m = omega (arith, put_length b x (rows w n t), ap length p.are) in
    let j : n * w ≤ m * w = mul-le-mul_right w k in
    let i : n * w + (m * w - n * w) ≡ m * w = omega arith in
    let z : length t - n * w - (m * w - n * w) ≡ length u - m * w = omega (arith, p.size) in
    let d : drop (m * w - n * w) (drop (n * w) t) ≡ drop (m * w) t = drop-drop (m * w - n * w) (n * w) t ∙ ap (λ (a : ℕ). drop a t) i in
    record {
      table = p.table;
      rest = p.rest ∙ sym d ∙ ap (drop (m * w - n * w)) h.rest ∙ drop_zeroes (m * w - n * w) (length t - n * w) ∙ ap (λ (a : ℕ). replicate a 0) z;
    }
