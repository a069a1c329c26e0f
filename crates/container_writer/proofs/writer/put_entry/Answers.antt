-- `put_entry` meets its contract: after each piece the next ones are left to lay down. Assumes nothing.
use mathlib.Core.List.{List, ◌++◌}
use Prim.Native.Nat.{ℕ}
use native.Mathlib.Omega.{arith}
use Rattle.words.specs.Bytes.{be_bytes}
use Rattle.container.specs.Container.{Entry}
use Rattle.container.specs.Canonical.{counted_bytes, entry_bytes}
use Rattle.container_writer.specs.Writer.{slots_in, entry_in}
use Rattle.container_writer.specs.WriterLaidLaws.{LaidRest, rest_start, rest_turn, piece_room, number_room}
use Rattle.container_writer.proofs.writer.put_entry.Goals as goal
use Rattle.container_writer.proofs.writer.put_entry.Goals.{After-put_number-end, After-put_number-end-2, After-put_slots-end, After-put_slots-end-2, After-put_slots-end-3, Start}

abbrev entry : Start → Entry
entry c = entry_in c.args.list.now

-- what is left to lay down from a place on
abbrev Left : Start → List ℕ → ℕ → List ℕ → Type 0
Left c out end rest = LaidRest c.args.out.now c.args.at (entry_bytes (entry c)) out end rest

-- the last pieces of the entry
abbrev keyed_writes_on : Entry → List ℕ
keyed_writes_on e = counted_bytes e.keyed_writes

abbrev keyed_reads_on : Entry → List ℕ
keyed_reads_on e = counted_bytes e.keyed_reads ++ keyed_writes_on e

abbrev writes_on : Entry → List ℕ
writes_on e = counted_bytes e.writes ++ keyed_reads_on e

abbrev reads_on : Entry → List ℕ
reads_on e = counted_bytes e.reads ++ writes_on e

abbrev offset_on : Entry → List ℕ
offset_on e = be_bytes 4 e.offset ++ reads_on e

all_left : (c : Start) → Left c c.args.out.now c.args.at (be_bytes 4 (entry c).selector ++ offset_on (entry c))
unfolding entry_bytes
all_left c = rest_start c.requires.1

-- what is left after each
selector_left : (c : After-put_number-end) → Left (goal.at-After-put_number-end c).Start c.put_number-end.new.out c.put_number-end.result (offset_on (entry (goal.at-After-put_number-end c).Start))
unfolding entry_in
selector_left c = rest_turn (all_left (goal.at-After-put_number-end c).Start) c.put_number-end.ensures

offset_left : (c : After-put_number-end-2) → Left (goal.at-After-put_number-end-2 c).Start c.put_number-end-2.new.out c.put_number-end-2.result (reads_on (entry (goal.at-After-put_number-end-2 c).Start))
unfolding entry_in
offset_left c = rest_turn (selector_left (goal.at-After-put_number-end-2 c).After-put_number-end) c.put_number-end-2.ensures

reads_left : (c : After-put_slots-end) → Left (goal.at-After-put_slots-end c).Start c.put_slots-end.new.out c.put_slots-end.result (writes_on (entry (goal.at-After-put_slots-end c).Start))
unfolding entry_in
reads_left c = rest_turn (offset_left (goal.at-After-put_slots-end c).After-put_number-end-2) c.put_slots-end.ensures

writes_left : (c : After-put_slots-end-2) → Left (goal.at-After-put_slots-end-2 c).Start c.put_slots-end-2.new.out c.put_slots-end-2.result (keyed_reads_on (entry (goal.at-After-put_slots-end-2 c).Start))
unfolding entry_in
writes_left c = rest_turn (reads_left (goal.at-After-put_slots-end-2 c).After-put_slots-end) c.put_slots-end-2.ensures

keyed_reads_left : (c : After-put_slots-end-3) →
    Left (goal.at-After-put_slots-end-3 c).Start c.put_slots-end-3.new.out c.put_slots-end-3.result (keyed_writes_on (entry (goal.at-After-put_slots-end-3 c).Start))
unfolding entry_in
keyed_reads_left c = rest_turn (writes_left (goal.at-After-put_slots-end-3 c).After-put_slots-end-2) c.put_slots-end-3.ensures

pub put_number-end-requires : goal.put_number-end-requires
put_number-end-requires c = let e = entry (goal.at-put_number-end-requires c).Start in number_room 4 e.selector (offset_on e) (all_left (goal.at-put_number-end-requires c).Start)

pub put_number-end-requires-2 : goal.put_number-end-requires-2
put_number-end-requires-2 c =
    let e = entry (goal.at-put_number-end-requires-2 c).Start in
    number_room 4 e.offset (reads_on e) (selector_left (goal.at-put_number-end-requires-2 c).After-put_number-end)

pub put_slots-end-requires : goal.put_slots-end-requires
unfolding slots_in entry_in
put_slots-end-requires c =
    let e = entry (goal.at-put_slots-end-requires c).Start in
    (omega (arith, c.requires.0.whole), piece_room (counted_bytes e.reads) (writes_on e) (offset_left (goal.at-put_slots-end-requires c).After-put_number-end-2))

pub put_slots-end-requires-2 : goal.put_slots-end-requires-2
unfolding slots_in entry_in
put_slots-end-requires-2 c =
    let e = entry (goal.at-put_slots-end-requires-2 c).Start in
    (omega (arith, c.requires.0.whole), piece_room (counted_bytes e.writes) (keyed_reads_on e) (reads_left (goal.at-put_slots-end-requires-2 c).After-put_slots-end))

pub put_slots-end-requires-3 : goal.put_slots-end-requires-3
unfolding slots_in entry_in
put_slots-end-requires-3 c =
    let e = entry (goal.at-put_slots-end-requires-3 c).Start in
    (omega (arith, c.requires.0.whole), piece_room (counted_bytes e.keyed_reads) (keyed_writes_on e) (writes_left (goal.at-put_slots-end-requires-3 c).After-put_slots-end-2))

pub put_slots-requires : goal.put_slots-requires
unfolding slots_in entry_in
put_slots-requires c =
    (omega (arith, c.requires.0.whole), (keyed_reads_left (goal.at-put_slots-requires c).After-put_slots-end-3).room)

pub returns : goal.returns
unfolding entry_in
returns c =
    (keyed_reads_left (goal.at-returns c).After-put_slots-end-3).then c.put_slots.new.out c.put_slots.result c.put_slots.ensures
