-- The new store: the store's rows with every stored key's last value put in (document 01, Lent input and what is left).
-- A value of 0 stays a row, since a store's row decides before the loader's.
use Rattle.std.specs.Prelude.{List, [], ◌∷◌, ℕ, ◌+◌, ◌*◌, leb, length, Option, Some, None, Result, Ok, Err}
use Rattle.words.specs.Choice.{pick}
use Rattle.tables.specs.Rows.{Row, insert}
use Rattle.changes.specs.ChangeList.{list_output_by}
use Rattle.changes.specs.declared.ChangeError.{ChangeError}

unfoldable pub merged : (changes store : List Row) → List Row
merged [] ss = ss
merged (c ∷ cs) ss = merged cs (insert c ss)

unfoldable pub merged_in : (changes store : Option (List Row)) → Option (List Row)
merged_in (Some cs) (Some ss) = Some (merged cs ss)
merged_in (Some cs) None = None
merged_in None ss = None

-- 45 for a table that is none, then 48 for an output without room for the rows of both
unfoldable pub merge_answer : (changes store : Option (List Row)) → (out : List ℕ) → Result ℕ ChangeError
merge_answer (Some cs) (Some ss) out =
    pick (leb ((length ss + length cs) * 40) (length out)) (Ok (length (merged cs ss))) (Err ChangeError.NoRoom)
merge_answer (Some cs) None out = Err ChangeError.BadTable
merge_answer None ss out = Err ChangeError.BadTable

-- the rows in front of the output, which is untouched where there are none
unfoldable pub merge_output : (changes store : Option (List Row)) → (out : List ℕ) → List ℕ
merge_output cs ss out = list_output_by (merge_answer cs ss out) (merged_in cs ss) out
