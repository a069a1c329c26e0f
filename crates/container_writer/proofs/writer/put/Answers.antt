-- `put` meets its contract: after each piece the next ones are left to lay down. Assumes nothing.
use mathlib.Core.List.{List, ◌++◌}
use Prim.Native.Nat.{ℕ}
use native.Mathlib.Omega.{arith}
use lib.ListN.{length, drop}
use Rattle.words.specs.Bytes.{be_bytes}
use Rattle.words.specs.BytesLaws.{rest}
use Rattle.container.specs.Container.{tag}
use Rattle.container.specs.Canonical.{counted_bytes, entries_bytes, canonical}
use Rattle.words.specs.Lists.{nth}
use Rattle.container_writer.specs.Writer.{entries_in}
use Rattle.container_writer.specs.WriterParts.{or_empty, container_of}
use Rattle.container_writer.specs.WriterLaws.{ListStands, listed_so}
use Rattle.container_writer.specs.WriterSizeLaws.{canonical_is}
use Rattle.container_writer.specs.WriterLaidLaws.{LaidRest, rest_start, rest_as, rest_turn, piece_room, number_room}
use Rattle.container_writer.proofs.writer.put.Goals as goal
use Rattle.container_writer.proofs.writer.put.Goals.{After-put_bytes-end, After-put_counted-end, After-put_number-end, After-put_number-end-2, After-put_number-end-3, Start}

-- what is left to lay down from a place on
abbrev Left : Start → List ℕ → ℕ → List ℕ → Type 0
Left c out end rest = let a = c.args in LaidRest a.out.now 0 (canonical (container_of a.code.now a.consts.now a.list.now)) out end rest

-- the last pieces of the container
abbrev entries_on : Start → List ℕ
entries_on c = let list = c.args.list.now in entries_bytes (or_empty (entries_in (nth list 0) (drop 1 list)))

abbrev count_on : Start → List ℕ
count_on c = be_bytes 4 (nth c.args.list.now 0) ++ entries_on c

abbrev consts_on : Start → List ℕ
consts_on c = counted_bytes c.args.consts.now ++ count_on c

abbrev code_on : Start → List ℕ
code_on c = c.args.code.now ++ consts_on c

abbrev length_on : Start → List ℕ
length_on c = be_bytes 4 (length c.args.code.now) ++ code_on c

a_list : (c : Start) → ListStands c.args.list.now
a_list c = listed_so c.args.list.now c.requires.0

all_left : (c : Start) → Left c c.args.out.now 0 (be_bytes 4 tag ++ length_on c)
all_left c = let a = c.args in rest_as (canonical_is a.code.now a.consts.now a.list.now c.requires.0) (rest_start (omega (arith, c.requires.1)))

-- what is left after each
tag_left : (c : After-put_number-end) → Left (goal.at-After-put_number-end c).Start c.put_number-end.new.out c.put_number-end.result (length_on (goal.at-After-put_number-end c).Start)
tag_left c = rest_turn (all_left (goal.at-After-put_number-end c).Start) c.put_number-end.ensures

length_left : (c : After-put_number-end-2) → Left (goal.at-After-put_number-end-2 c).Start c.put_number-end-2.new.out c.put_number-end-2.result (code_on (goal.at-After-put_number-end-2 c).Start)
length_left c = rest_turn (tag_left (goal.at-After-put_number-end-2 c).After-put_number-end) c.put_number-end-2.ensures

code_left : (c : After-put_bytes-end) → Left (goal.at-After-put_bytes-end c).Start c.put_bytes-end.new.out c.put_bytes-end.result (consts_on (goal.at-After-put_bytes-end c).Start)
code_left c = rest_turn (length_left (goal.at-After-put_bytes-end c).After-put_number-end-2) c.put_bytes-end.ensures

consts_left : (c : After-put_counted-end) → Left (goal.at-After-put_counted-end c).Start c.put_counted-end.new.out c.put_counted-end.result (count_on (goal.at-After-put_counted-end c).Start)
consts_left c = rest_turn (code_left (goal.at-After-put_counted-end c).After-put_bytes-end) c.put_counted-end.ensures

count_left : (c : After-put_number-end-3) → Left (goal.at-After-put_number-end-3 c).Start c.put_number-end-3.new.out c.put_number-end-3.result (entries_on (goal.at-After-put_number-end-3 c).Start)
count_left c = rest_turn (consts_left (goal.at-After-put_number-end-3 c).After-put_counted-end) c.put_number-end-3.ensures

pub bounds-list-0 : goal.bounds-list-0
bounds-list-0 c = omega (arith, (a_list (goal.at-bounds-list-0 c).Start).stands)

pub put_number-end-requires : goal.put_number-end-requires
put_number-end-requires c = number_room 4 tag (length_on (goal.at-put_number-end-requires c).Start) (all_left (goal.at-put_number-end-requires c).Start)

pub put_number-end-requires-2 : goal.put_number-end-requires-2
put_number-end-requires-2 c =
    number_room 4 (length c.args.code.now) (code_on (goal.at-put_number-end-requires-2 c).Start) (tag_left (goal.at-put_number-end-requires-2 c).After-put_number-end)

pub put_bytes-end-requires : goal.put_bytes-end-requires
put_bytes-end-requires c =
    piece_room c.args.code.now (consts_on (goal.at-put_bytes-end-requires c).Start) (length_left (goal.at-put_bytes-end-requires c).After-put_number-end-2)

pub put_counted-end-requires : goal.put_counted-end-requires
put_counted-end-requires c =
    piece_room (counted_bytes c.args.consts.now) (count_on (goal.at-put_counted-end-requires c).Start) (code_left (goal.at-put_counted-end-requires c).After-put_bytes-end)

pub put_number-end-requires-3 : goal.put_number-end-requires-3
put_number-end-requires-3 c =
    number_room 4 (nth c.args.list.now 0) (entries_on (goal.at-put_number-end-requires-3 c).Start) (consts_left (goal.at-put_number-end-requires-3 c).After-put_counted-end)

pub slice_bounds-put_entries-count : goal.slice_bounds-put_entries-count
slice_bounds-put_entries-count c = omega (arith, (a_list (goal.at-slice_bounds-put_entries-count c).Start).stands)

pub slice_bounds-put_entries-start : goal.slice_bounds-put_entries-start
slice_bounds-put_entries-start c = omega (arith, (a_list (goal.at-slice_bounds-put_entries-start c).Start).stands)

pub put_entries-requires : goal.put_entries-requires
put_entries-requires c =
    rw (rest 1 c.args.list.now) (rw (a_list (goal.at-put_entries-requires c).Start).is at c.requires.0, (count_left (goal.at-put_entries-requires c).After-put_number-end-3).room)

pub returns : goal.returns
returns c =
    (count_left (goal.at-returns c).After-put_number-end-3).then _ c.put_entries.result (rw (rest 1 c.args.list.now) at c.put_entries.ensures)
