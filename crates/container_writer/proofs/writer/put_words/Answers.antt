-- `put_words` meets its contract. The loop's invariant: the words from the i-th on are left to lay down. Assumes nothing.
use mathlib.Core.List.{List, ◌++◌}
use Prim.Native.Nat.{ℕ, ◌+◌}
use lib.ListN.{drop, get_or}
use Rattle.words.specs.Bytes.{be_bytes}
use Rattle.container.specs.Canonical.{word_bytes}
use Rattle.container_writer.specs.WriterLaidLaws.{LaidRest, rest_turn, rest_end, number_room, word_bytes_turn, word_bytes_end}
use Rattle.container_writer.proofs.writer.put_words.Goals as goal
use Rattle.container_writer.proofs.writer.put_words.Goals.{In-loop-x}

abbrev read : In-loop-x → ℕ
read c = get_or c.args.list.now c.loop-x.x-index 0

abbrev later : In-loop-x → List ℕ
later c = word_bytes (drop (c.loop-x.x-index + 1) c.args.list.now)

next : (c : In-loop-x) →
    LaidRest c.args.out.now c.args.at (word_bytes c.args.list.now) c.loop-x.out c.loop-x.end (be_bytes 8 (read c) ++ later c)
next c = rw (word_bytes_turn c.args.list.now c.loop-x.x-index c.loop-x-test.true) at c.loop-x.invariant

pub put_number-end-requires : goal.put_number-end-requires
put_number-end-requires c =
    number_room 8 (read (goal.at-put_number-end-requires c).In-loop-x) (later (goal.at-put_number-end-requires c).In-loop-x) (next (goal.at-put_number-end-requires c).In-loop-x)

pub loop-x-preserved : goal.loop-x-preserved
loop-x-preserved c = rest_turn (next (goal.at-loop-x-preserved c).In-loop-x) c.put_number-end.ensures

pub returns : goal.returns
returns c =
    rest_end (rw (word_bytes_end c.args.list.now c.loop-x.x-index c.loop-x-test.false) at c.loop-x.invariant)
