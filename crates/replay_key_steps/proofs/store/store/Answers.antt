-- It stores where the plan has room, and that leaves good tables.
use Rattle.std.proofs.Common.{[]}
use Rattle.std.proofs.lemmas.Bool.{not-false}
use Rattle.keys.specs.Lent.{given}
use Rattle.keys.specs.StoreLaws.{store_ready}
use Rattle.replay_key_steps.specs.Sound.{bufs}
use Rattle.replay_key_steps.proofs.store.store.Goals as goal

pub store-t-requires : goal.store-t-requires
store-t-requires g c =
    let a = c.args in
    let t = a.t.now in
    let good = c.requires.1 in
    let plan = c.plan_store-plan.ensures [] [] [] [] t.readable good in
    -- what a store leaves does not depend on the slots
    let s = given [] [] [] [] a.lent.store.now a.lent.loader.now in
    store_ready a.lent.rows s t.counts (bufs t) good _ _ _ plan (not-false _ c.if-not-plan.false)

pub returns-clause-sound : goal.returns-clause-sound
returns-clause-sound g c =
    let a = c.args in
    let t = a.t.now in
    let good = c.requires.1 in
    let s = given [] [] [] [] a.lent.store.now a.lent.loader.now in
    let plan = c.plan_store-plan.ensures [] [] [] [] t.readable good in
    (c.store-t.ensures a.lent.rows s t.readable t.writable good plan).good
