-- Rows that stand in the front of bytes stand in the bytes. Assumes nothing.
use Rattle.std.specs.Prelude.{◌≡◌, List, ℕ, ◌*◌, ◌≤◌, length, take, drop, Some}
use Rattle.std.proofs.Common.{sym, ap, ◌∙◌, arith, take-append-drop, length-take-le}
use Rattle.tables.specs.Rows.{rows}
use Rattle.tables.specs.Table.{Table}
use Rattle.tables.specs.Checked.{checked_of}
use Rattle.tables.specs.CheckTheorems.{checks_exactly}
use Rattle.tables.specs.LayoutLaws.{rows_front}

-- a front that was checked to be n rows makes the bytes a table of n rows
pub front_table : (w n m : ℕ) (t : List ℕ) → 32 ≤ w → n * w ≤ length t → checked_of w (take (n * w) t) ≡ Some m → m ≡ n → Table w n t
front_table w n m t h l e k =
    let (_, s) = (checks_exactly w (take (n * w) t) h m).0 e in
    let f : n * w ≤ length (take (n * w) t) = omega (arith, length-take-le (n * w) t l) in
    let whole : rows w n t ≡ rows w n (take (n * w) t) =
    ap (rows w n) (sym (take-append-drop (n * w) t)) ∙ rows_front w n (take (n * w) t) (drop (n * w) t) h f in
    record { wide = h; fits = l; rising = rw whole (rw k at s) }
