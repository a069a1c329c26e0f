-- `unique_entry` meets its contract. The loop's invariant: all entries with the selector are among those that are left. Assumes nothing.
use Rattle.std.specs.Prelude.{Option}
use mathlib.Core.Path.{◌≡◌, sym, ◌∙◌}
use mathlib.Core.List.{List}
use Prim.Native.Nat.{ℕ}
use lib.ListN.{drop}
use Rattle.container.specs.Container.{Entry}
use Rattle.container.specs.Reader.{read, entries}
use Rattle.container.specs.EntryToldLaws.{EntryFound, entry_found, entry_short}
use Rattle.opening.specs.Parts.{SoughtTold}
use Rattle.opening.specs.UniqueLaws.{seek_begins, seek_on, none_short, none_left, sought_by, matched}
use Rattle.opening.proofs.unique_entry.unique_entry.Goals as goal
use Rattle.opening.proofs.unique_entry.unique_entry.Goals.{After-find, In-Some}
use Rattle.container.specs.declared.entries.EntryLayout.{EntryLayout}

pub loop-more-init : goal.loop-more-init
loop-more-init c = seek_begins _ _ _ _

pub returns-in_default : goal.returns-in_default
returns-in_default c =
    λ es t k. absurd (none_short c.loop-more.invariant c.loop-more-test.true
    (entry_short _ c.loop-more.at (sym c.in_default.is ∙ c.entry_at.ensures)) es t k)

-- the entry that a turn found
entry_of : (c : In-Some) → EntryFound c.args.s.now c.loop-more.at c.in-Some.e
entry_of c =
    entry_found _ c.loop-more.at _ (sym c.in-Some.is ∙ c.entry_at.ensures)

behind : (c : After-find) (o : Option EntryLayout) → c.find.result ≡ o → (es : List Entry) (t : List ℕ) →
    let a = c.args in
    entries a.n (drop a.first a.s.now) ≡ read es t → SoughtTold a.s.now a.selector es (sought_by c.in-Some.e o)
behind c o e es t k =
    matched c.loop-more.invariant c.loop-more-test.true _ (entry_of (goal.at-After-find c).In-Some) c.if-e-selector.true _ c.find.ensures es t k o e

pub returns-in-Some-find : goal.returns-in-Some-find
returns-in-Some-find c = behind (goal.at-returns-in-Some-find c).After-find _ c.in-Some-find.is

pub returns-in-None : goal.returns-in-None
returns-in-None c = behind (goal.at-returns-in-None c).After-find _ c.in-None.is

pub loop-more-preserved : goal.loop-more-preserved
loop-more-preserved c =
    seek_on c.loop-more.invariant c.loop-more-test.true _ (entry_of (goal.at-loop-more-preserved c).In-Some) c.if-e-selector.false

pub returns : goal.returns
returns c = none_left c.loop-more.invariant c.loop-more-test.false
