-- What is promised of a call: demand 3 over its answer and the buffers that it leaves.
use Rattle.std.specs.Prelude.{◌≡◌, true, List, [], ℕ, suc, ◌+◌, ◌-◌, ◌/◌, ◌≤◌, length}
use Rattle.words.specs.Choice.{pick}
use Rattle.words.specs.Lists.{member}
use Rattle.meter.specs.Prices.{dispatch_price}
use Rattle.tables.specs.Rows.{Rising, rows}
use Rattle.keys.specs.Values.{has}
use Rattle.changes.specs.ChangeList.{start_of}
use Rattle.container.specs.Container.{Container}
use Rattle.opening.specs.Opening.{Input, Lent, Opening, refuse, start}
use Rattle.interp.specs.Call.{Called, called, halted_as, kept_of}
use Rattle.machine.specs.Machine.{Machine}
use Rattle.machine.specs.Turns.{halted, run_of}
use Rattle.machine.specs.Trace.{Took, steps_of}
use Rattle.promises.specs.Accounts.{bill_of, Righted, stored_in}
use Rattle.promises.specs.Grown.{tally, grew}

-- ---- the run that an opening leads to: none if it is refused

unfoldable pub ran_of : Opening → List Took
ran_of (refuse n) = []
ran_of (start e m) = steps_of (suc (e.limit - m.used)) e m

-- it halts, and leaves this machine
abbrev pub HaltsWith : Opening → Machine → Type 0
HaltsWith (refuse n) p = ⊥
HaltsWith (start e m) p = run_of (suc (e.limit - m.used)) e m ≡ halted p

-- the prices of its steps, summed
unfoldable pub bill_for : Opening → ℕ
bill_for (refuse n) = 0
bill_for (start e m) = bill_of e (ran_of (start e m))

-- what its steps stored was declared, or authorised for keyed writing by an earlier Hash
abbrev pub RightedIn : Opening → Type 0
RightedIn (refuse n) = Unit {0}
RightedIn (start e m) = Righted e e.keys.writes (ran_of (start e m))

-- a key's starting value
unfoldable pub start_at : Input → ℕ → ℕ
start_at x k = start_of (rows 40 (length x.store / 40) x.store) (pick x.has_loader (rows 40 (length x.loader / 40) x.loader) []) k

-- ---- the promises, of an opening and what the call leaves

-- a call that halted leaves its last machine: its fetches are its steps, used is D and their prices, and so on of the keys it changed
pub record Halted (x : Input) (b : Lent) (d : ℕ) (o : Opening) (r : Called) : Type 0 where
  pub last : Machine
  pub halts : HaltsWith o last
  pub leaves : r ≡ called (halted_as last) (kept_of last b)
  pub fetches : r.answer.fetches ≡ length (ran_of o)
  pub used : r.answer.used ≡ d + bill_for o
  pub within : r.answer.used ≤ x.limit
  pub rising : Rising 0 last.keys.changes
  pub stored : (k : ℕ) → has k last.keys.changes ≡ true → member k (stored_in (ran_of o)) ≡ true
  pub grown : tally (grew (start_at x)) last.keys.changes ≤ 8 + (r.answer.used - d) / 227000

-- over n code bytes D = 4 + 9n; however the call ends, and where it halts
pub record Promised (x : Input) (b : Lent) (c : Container) (o : Opening) (r : Called) : Type 0 where
  pub fetches : r.answer.fetches ≤ x.limit - dispatch_price (length c.code) + 1
  pub righted : RightedIn o
  pub halted : r.answer.end.number ≡ 0 → Halted x b (dispatch_price (length c.code)) o r
