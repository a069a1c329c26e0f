-- `ops_storage::load::load_key` meets its contract: the right, then the room, then the value. Assumes nothing.
use mathlib.Core.List.{List, []}
use Prim.Native.Nat.{ℕ}
use Rattle.words.specs.Bytes.{num}
use Rattle.keys.specs.Values.{look}
use Rattle.keys.specs.LoadLaws.{load_ready}
use Rattle.keys.specs.Lent.{Given, key_bufs, given}
use Rattle.machine.specs.Lent.{Bufs, lent_to}
use Rattle.ops_storage.specs.LoadLaws.{load_denied, load_full, load_done}
use Rattle.ops_storage.proofs.load.load_key.Goals as goal
use Rattle.ops_storage.proofs.load.load_key.Goals.{Start}

abbrev given_at : Start → (kr kw : List ℕ) → Given
given_at c kr kw = let a = c.args in given a.reads.now a.writes.now kr kw a.store.now a.loader.now

abbrev lent_at : Start → (mw pd memory stack log : List ℕ) → Bufs
lent_at c mw pd memory stack log = let a = c.args in lent_to memory stack a.changes.now a.fetched.now a.readable.now mw pd log

pub returns-then-not-may_load : goal.returns-then-not-may_load
returns-then-not-may_load c =
    let a = c.args in
    λ e s kr kw mw pd memory stack log d f.
    load_denied e s d f a.lent (given_at (goal.at-returns-then-not-may_load c).Start kr kw) a.run (lent_at (goal.at-returns-then-not-may_load c).Start mw pd memory stack log) a.to (num a.key.now) _ c.may_load.ensures _ _ c.stop.ensures c.if-not-may_load.true

pub returns-then-not-load_room : goal.returns-then-not-load_room
unfolding look
returns-then-not-load_room c =
    let a = c.args in
    let seen = rw c.loader_table-loader.ensures at c.look_up-seen.ensures in
    λ e s kr kw mw pd memory stack log d f ek sixteen so.
    load_full e s d f a.lent (given_at (goal.at-returns-then-not-load_room c).Start kr kw) a.run (lent_at (goal.at-returns-then-not-load_room c).Start mw pd memory stack log) a.to (num a.key.now) _ c.may_load.ensures c.if-not-may_load.false
    _ (c.load_room.ensures a.lent (given_at (goal.at-returns-then-not-load_room c).Start kr kw) a.changes.now a.readable.now mw pd so.tables seen)
    _ _ c.stop-then-not-load_room.ensures c.if-not-load_room.true ek sixteen so

pub load-counts-requires : goal.load-counts-requires
unfolding look
load-counts-requires c =
    let a = c.args in
    let seen = rw c.loader_table-loader.ensures at c.look_up-seen.ensures in
    let rest = c.requires.2 in (
      rest.2.fetched.table,
      load_ready a.lent (given_at (goal.at-load-counts-requires c).Start [] []) a.run.counts (key_bufs a.changes.now a.fetched.now a.readable.now rest.0 rest.1) rest.2 (num a.key.now) _ seen
          _ (c.load_room.ensures a.lent (given_at (goal.at-load-counts-requires c).Start [] []) a.changes.now a.readable.now rest.0 rest.1 rest.2 seen)
          c.if-not-load_room.false,
    )

pub returns : goal.returns
unfolding look
returns c =
    let a = c.args in
    let seen = rw c.loader_table-loader.ensures at c.look_up-seen.ensures in
    λ e s kr kw mw pd memory stack log d f ek sixteen so.
    load_done e s d f a.lent (given_at (goal.at-returns c).Start kr kw) a.run (lent_at (goal.at-returns c).Start mw pd memory stack log) a.to (num a.key.now) _ c.may_load.ensures c.if-not-may_load.false
    _ (c.load_room.ensures a.lent (given_at (goal.at-returns c).Start kr kw) a.changes.now a.readable.now mw pd so.tables seen)
    _ _ _ seen c.load-counts.auto.fetched (c.load-counts.ensures a.lent (given_at (goal.at-returns c).Start kr kw) a.changes.now a.readable.now mw pd so.tables seen)
    _ c.set.ensures c.if-not-load_room.false ek sixteen so
