-- What the parts of the code's opening tell.
use Rattle.std.specs.Prelude.{◌≡◌, true, false, List, [], ◌∷◌, ℕ, ◌≤◌, eqb, Some, Result, Ok, Err}
use Rattle.words.specs.Bytes.{Bytes}
use Rattle.tables.specs.Checked.{checked_of}
use Rattle.container.specs.Container.{Entry}
use Rattle.container.specs.Reader.{read_of}
use Rattle.container.specs.EntryToldLaws.{EntryFound}
use Rattle.container.specs.ReadToldLaws.{ReadTold}
use Rattle.container.specs.declared.reader.Layout.{Layout}
use Rattle.container.specs.declared.entries.EntryLayout.{EntryLayout}
use Rattle.keys.specs.declared.look.TableRows.{TableRows}
use Rattle.opening.specs.Opening.{Input, Lent, tables_number, matching, opening_read, opening_in, opening_one, opening_at}
use Rattle.opening.specs.Opened.{input_of, ToldOf, numbered}
use Rattle.opening.specs.declared.open.Call.{Call}
use Rattle.opening.specs.declared.open.Opened.{Opened}
use Rattle.words.specs.Refusals.{refusal}
use Rattle.state.specs.Faults.{fault_refusal}
use Rattle.state.specs.declared.fault.Fault.{Fault}
use Rattle.opening.specs.declared.unique_entry.NotOne.{NotOne}

-- ---- tables

-- none is refused, and these are the rows of store and loader
pub record Tabled (x : Input) (n : TableRows) : Type 0 where
  pub number : tables_number x ≡ 0
  pub store : checked_of 40 x.store ≡ Some n.store
  pub has_loader : n.has_loader ≡ x.has_loader
  pub loader : x.has_loader ≡ true → checked_of 40 x.loader ≡ Some n.loader

-- or one is refused, with this fault
pub record Untabled (x : Input) (n : Fault) : Type 0 where
  pub number : ℕ
  pub is : tables_number x ≡ number
  pub some : eqb number 0 ≡ false
  pub tells : fault_refusal n ≡ refusal number 0

abbrev pub TablesTold : Input → Result TableRows Fault → Type 0
TablesTold x (Ok n) = Tabled x n
TablesTold x (Err n) = Untabled x n

abbrev pub Checks : Call → (store loader replies : List ℕ) → Result TableRows Fault → Type 0
Checks c st ld rp r = (s pre : List ℕ) → TablesTold (input_of c s st ld rp pre) r

-- ---- the entry with a selector

-- one entry has it, and stands in the bytes
pub record One (s : List ℕ) (selector : ℕ) (es : List Entry) (e : EntryLayout) : Type 0 where
  pub at : ℕ
  pub entry : EntryFound s at e
  pub is : matching selector es ≡ entry.found ∷ []

-- at least two have it
pub record Two (selector : ℕ) (es : List Entry) : Type 0 where
  pub one : Entry
  pub other : Entry
  pub rest : List Entry
  pub is : matching selector es ≡ one ∷ other ∷ rest

abbrev pub SoughtTold : List ℕ → ℕ → List Entry → Result EntryLayout NotOne → Type 0
SoughtTold s selector es (Ok e) = One s selector es e
SoughtTold s selector es (Err NotOne.Missing) = matching selector es ≡ []
SoughtTold s selector es (Err NotOne.Twice) = Two selector es

-- ---- a call whose container was read and whose tables were checked

pub record Entering (x : Input) (b : Lent) (l : Layout) (n : TableRows) (part : List ℕ) : Type 0 where
  pub read : ReadTold x.container l
  pub bytes : Bytes x.container
  pub code : part ≡ read.found.code
  pub tables : Tabled x n
  pub is : opening_read x b (read_of x.container) ≡ opening_in x b read.found

abbrev pub OpensIn : Call → Layout → TableRows → (container code : List ℕ) → Result Opened Fault → Type 0
OpensIn c l n s code r =
    (st ld rp pre : List ℕ) (b : Lent) → Entering (input_of c s st ld rp pre) b l n code → ToldOf (input_of c s st ld rp pre) b (numbered r)

-- and whose entries were searched for the selector
pub record Choosing (x : Input) (b : Lent) (l : Layout) (n : TableRows) (part : List ℕ) (o : Result EntryLayout NotOne) : Type 0 where
  pub entering : Entering x b l n part
  pub small : l.code ≤ 65536
  pub is : opening_read x b (read_of x.container) ≡ opening_one x b entering.read.found (matching x.selector entering.read.found.entries)
  pub told : SoughtTold x.container x.selector entering.read.found.entries o

abbrev pub Searched : Call → Layout → TableRows → (container code : List ℕ) → Result EntryLayout NotOne → Type 0
Searched c l n s code o =
    (st ld rp pre : List ℕ) (b : Lent) → Entering (input_of c s st ld rp pre) b l n code → Choosing (input_of c s st ld rp pre) b l n code o

-- and whose one entry was found
pub record Beginning (x : Input) (b : Lent) (l : Layout) (n : TableRows) (e : EntryLayout) (part : List ℕ) : Type 0 where
  pub entering : Entering x b l n part
  pub small : l.code ≤ 65536
  pub at : ℕ
  pub entry : EntryFound x.container at e
  pub is : opening_read x b (read_of x.container) ≡ opening_at x b entering.read.found entry.found

abbrev pub OpensAt : Call → Layout → TableRows → EntryLayout → (code : List ℕ) → Result Opened Fault → Type 0
OpensAt c l n e code r =
    (s st ld rp pre : List ℕ) (b : Lent) → Beginning (input_of c s st ld rp pre) b l n e code → ToldOf (input_of c s st ld rp pre) b (numbered r)
