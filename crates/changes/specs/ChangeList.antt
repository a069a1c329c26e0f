-- The change list: the stored keys whose last value differs from the starting value, rising (document 01, Lent input and what is left).
use Rattle.std.specs.Prelude.{Bool, true, false, List, [], ◌∷◌, ◌++◌, ℕ, ◌*◌, leb, eqb, length, drop, Option, Some, None, Result, Ok, Err}
use Rattle.std.specs.Option.{unwrap_or}
use Rattle.words.specs.Choice.{pick, both}
use Rattle.words.specs.Refusals.{refusal}
use Rattle.words.specs.declared.refusal.Refusal.{Refusal}
use Rattle.tables.specs.Rows.{Row, rows, bytes_of, lookup}
use Rattle.tables.specs.Checked.{risingb, checked_of}
use Rattle.changes.specs.declared.ChangeError.{ChangeError}

-- a value, or what stands in for it
unfoldable pub or_else : Option ℕ → ℕ → ℕ
or_else o v = unwrap_or o v

-- a key's starting value: the store's, else the loader's, else 0
unfoldable pub start_of : (store loader : List Row) → ℕ → ℕ
start_of store loader k = or_else (lookup k store) (or_else (lookup k loader) 0)

-- the rows whose value is not their key's starting value
unfoldable pub changed : (store loader : List Row) → List Row → List Row
changed store loader [] = []
changed store loader (r ∷ rs) =
    pick (eqb r.value (start_of store loader r.key)) (changed store loader rs) (r ∷ changed store loader rs)

-- what is lent: the changes and their count, the store, and the loader, whose bytes are not looked at where there is none
pub record ChangesLent : Type 0 where
  pub changes : List ℕ
  pub count : ℕ
  pub store : List ℕ
  pub has_loader : Bool
  pub loader : List ℕ

abbrev pub lent : (changes : List ℕ) (count : ℕ) (store : List ℕ) (has_loader : Bool) (loader : List ℕ) → ChangesLent
lent changes count store has_loader loader =
    record { changes = changes; count = count; store = store; has_loader = has_loader; loader = loader }

-- the rows of a whole table, if it is one
unfoldable pub rows_of : Option ℕ → List ℕ → Option (List Row)
rows_of (Some n) t = Some (rows 40 n t)
rows_of None t = None

unfoldable pub checked_loader : Bool → List ℕ → Option (List Row)
checked_loader true t = rows_of (checked_of 40 t) t
checked_loader false t = Some []

-- the counted rows, where they stand and rise
unfoldable pub counted_rows : List ℕ → ℕ → Option (List Row)
counted_rows t n = pick (both (leb (n * 40) (length t)) (risingb 0 (rows 40 n t))) (Some (rows 40 n t)) None

unfoldable pub list_from : (changes store loader : Option (List Row)) → Option (List Row)
list_from (Some cs) (Some ss) (Some ls) = Some (changed ss ls cs)
list_from (Some cs) (Some ss) None = None
list_from (Some cs) None ls = None
list_from None ss ls = None

-- the change list, or none where a table is bad (45)
unfoldable pub list_of : ChangesLent → Option (List Row)
list_of l = list_from (counted_rows l.changes l.count) (rows_of (checked_of 40 l.store) l.store) (checked_loader l.has_loader l.loader)

-- 45, then 48 for an output that is too short
unfoldable pub answer_of : Option (List Row) → (out : List ℕ) → Result ℕ ChangeError
answer_of None out = Err ChangeError.BadTable
answer_of (Some rs) out = pick (leb (length rs * 40) (length out)) (Ok (length rs)) (Err ChangeError.NoRoom)

unfoldable pub list_output_by : Result ℕ ChangeError → Option (List Row) → (out : List ℕ) → List ℕ
list_output_by (Ok n) (Some rs) out = bytes_of 40 rs ++ drop (n * 40) out
list_output_by (Ok n) None out = out
list_output_by (Err e) rs out = out

unfoldable pub list_output : Option (List Row) → (out : List ℕ) → List ℕ
list_output rs out = list_output_by (answer_of rs out) rs out

-- document 01's number of each error
abbrev pub change_error : ChangeError → Refusal
change_error ChangeError.BadTable = refusal 45 0
change_error ChangeError.NoRoom = refusal 48 0

-- document 01's number of the answer
abbrev pub change_list_number : Result ℕ ChangeError → ℕ
change_list_number (Ok n) = 0
change_list_number (Err e) = (change_error e).number
