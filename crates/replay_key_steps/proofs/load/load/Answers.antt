-- It loads where there is room, and that leaves good tables.
use Rattle.std.proofs.Common.{[]}
use Rattle.keys.specs.Values.{look}
use Rattle.keys.specs.Lent.{given}
use Rattle.keys.specs.LoadLaws.{load_ready}
use Rattle.replay_key_steps.specs.Sound.{bufs}
use Rattle.replay_key_steps.proofs.load.load.Goals as goal

pub load-t-requires : goal.load-t-requires
unfolding look
load-t-requires g c =
    let a = c.args in
    let seen = rw c.loader_table-loader.ensures at c.look_up-seen.ensures in
    let t = a.t.now in
    let good = c.requires.1 in
    -- what a load leaves does not depend on the slots
    let s = given [] [] [] [] a.lent.store.now a.lent.loader.now in
    let fits = c.load_room.ensures a.lent.rows s t.changes t.readable t.writable t.paid good seen in
    (good.fetched.table, load_ready a.lent.rows s t.counts (bufs t) good _ _ seen _ fits c.if-not-load_room.false)

pub returns-clause-sound : goal.returns-clause-sound
unfolding look
returns-clause-sound g c =
    let a = c.args in
    let seen = rw c.loader_table-loader.ensures at c.look_up-seen.ensures in
    let t = a.t.now in
    let s = given [] [] [] [] a.lent.store.now a.lent.loader.now in
    (c.load-t.ensures a.lent.rows s t.changes t.readable t.writable t.paid c.requires.1 seen).good
