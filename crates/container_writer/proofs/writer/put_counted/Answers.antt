-- `put_counted` meets its contract: the words follow their count. Assumes nothing.
use mathlib.Core.List.{List, ◌++◌}
use Prim.Native.Nat.{ℕ}
use lib.ListN.{length}
use Rattle.words.specs.Bytes.{be_bytes}
use Rattle.container.specs.Canonical.{word_bytes, counted_bytes}
use Rattle.container_writer.specs.WriterLaidLaws.{LaidRest, rest_start, rest_turn, number_room}
use Rattle.container_writer.proofs.writer.put_counted.Goals as goal
use Rattle.container_writer.proofs.writer.put_counted.Goals.{After-put_number-end, Start}

-- what is left to lay down from a place on
abbrev Left : Start → List ℕ → ℕ → List ℕ → Type 0
Left c out end rest = LaidRest c.args.out.now c.args.at (counted_bytes c.args.list.now) out end rest

all_left : (c : Start) → Left c c.args.out.now c.args.at (be_bytes 4 (length c.args.list.now) ++ word_bytes c.args.list.now)
unfolding counted_bytes
all_left c = rest_start c.requires

words_left : (c : After-put_number-end) → Left (goal.at-After-put_number-end c).Start c.put_number-end.new.out c.put_number-end.result (word_bytes c.args.list.now)
words_left c = rest_turn (all_left (goal.at-After-put_number-end c).Start) c.put_number-end.ensures

pub put_number-end-requires : goal.put_number-end-requires
put_number-end-requires c =
    let list = c.args.list.now in
    number_room 4 (length list) (word_bytes list) (all_left (goal.at-put_number-end-requires c).Start)

pub put_words-requires : goal.put_words-requires
put_words-requires c = (words_left (goal.at-put_words-requires c).After-put_number-end).room

pub returns : goal.returns
returns c =
    (words_left (goal.at-returns c).After-put_number-end).then c.put_words.new.out c.put_words.result c.put_words.ensures
