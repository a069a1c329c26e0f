-- What is sound of tables in lent bytes, and what a step keeps of it.
use Rattle.std.specs.Prelude.{◌≡◌, Bool, true, List, ℕ, ◌-◌, ◌*◌, leb, length, drop, replicate}
use Rattle.tables.specs.Rows.{Row, rows}
use Rattle.tables.specs.Table.{Table}
use Rattle.keys.specs.Known.{Keys}
use Rattle.keys.specs.Values.{put_if}
use Rattle.keys.specs.Lent.{KeyBufs, keys_of}
use Rattle.keys.specs.declared.counts.Counts.{Counts}

-- the loader's table is sorted, if there is a loader
abbrev pub Loader : Bool → ℕ → List ℕ → Type 0
Loader has_loader n t = has_loader ≡ true → Table 40 n t

-- n sorted rows stand in t, and zeroes after them
pub record Held (w n : ℕ) (t : List ℕ) : Type 0 where
  pub table : Table w n t
  pub rest : drop (n * w) t ≡ replicate (length t - n * w) 0

-- every table is sorted, within its bytes, and zero after its rows
pub record Good (c : Counts) (b : KeyBufs) : Type 0 where
  pub changes : Held 40 c.changes b.changes
  pub fetched : Held 40 c.fetched b.fetched
  pub may_read : Held 32 c.reads b.may_read
  pub may_write : Held 32 c.writes b.may_write
  pub paid : Held 32 c.paid b.paid

-- whether the rows, with a row put in if so told, stay within the bytes
abbrev pub holds : (w n : ℕ) → Bool → Row → List ℕ → Bool
holds w n b x t = leb (length (put_if b x (rows w n t)) * w) (length t)

-- m rows stand in u, where n stood in t: with a row put in, if so told, and what lies past them as it was
pub record PutIf (w n m : ℕ) (b : Bool) (x : Row) (t u : List ℕ) : Type 0 where
  pub table : Table w m u
  pub are : rows w m u ≡ put_if b x (rows w n t)
  pub size : length u ≡ length t
  pub rest : drop (m * w) u ≡ drop (m * w) t

-- what a step leaves: the keys that its rule says, in tables as good as before
pub record Leaves (want : Keys) (c : Counts) (b : KeyBufs) : Type 0 where
  pub are : keys_of c b ≡ want
  pub good : Good c b
