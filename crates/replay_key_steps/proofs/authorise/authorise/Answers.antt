-- It authorises where the plan has room, and that leaves good tables.
use Rattle.std.proofs.lemmas.Bool.{not-false}
use Rattle.std.proofs.Common.{false, [], take, drop, List, ℕ}
use Rattle.keys.specs.Lent.{Given, given}
use Rattle.keys.specs.KeyLaws.{key_ready}
use Rattle.keys.specs.declared.look.TableRows.{TableRows}
use Rattle.replay_key_steps.specs.Sound.{bufs}
use Rattle.replay_key_steps.proofs.authorise.authorise.Goals as goal

-- what authorising leaves does not depend on store and loader
abbrev no_store : TableRows
no_store = record { store = 0; has_loader = false; loader = 0 }

abbrev keyed : List ℕ → Given
keyed s = given [] [] (take 96 (drop 192 s)) (take 96 (drop 288 s)) [] []

pub authorise-t-requires : goal.authorise-t-requires
authorise-t-requires g c =
    let a = c.args in
    let t = a.t.now in
    let good = c.requires in
    let plan = c.plan_authorise-plan.ensures no_store [] [] [] [] t.changes t.fetched t.paid good in
    key_ready no_store (keyed a.slots.now) t.counts (bufs t) good _ _ _ plan (not-false _ c.if-not-plan-2.false)

pub returns-clause-sound : goal.returns-clause-sound
returns-clause-sound g c =
    let t = c.args.t.now in
    let plan = c.plan_authorise-plan.ensures no_store [] [] [] [] t.changes t.fetched t.paid c.requires in
    (c.authorise-t.ensures no_store (keyed c.args.slots.now) _ t.changes t.fetched t.paid c.requires plan).good
