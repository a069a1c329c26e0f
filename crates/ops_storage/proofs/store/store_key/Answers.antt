-- `ops_storage::store::store_key` meets its contract: the right, the price, the room, then the change. Assumes nothing.
use mathlib.Core.List.{List, []}
use Prim.Native.Nat.{ℕ}
use Rattle.words.specs.Bytes.{num}
use Rattle.keys.specs.StoreLaws.{store_ready}
use Rattle.keys.specs.Lent.{Given, key_bufs, given}
use Rattle.machine.specs.Lent.{Bufs, lent_to}
use Rattle.ops_storage.specs.StoreLaws.{store_denied, store_unpaid, store_full, store_done}
use borrow.Author.Tests.{not-true, not-false}
use Rattle.ops_storage.proofs.store.store_key.Goals as goal
use Rattle.ops_storage.proofs.store.store_key.Goals.{Start}

-- what a run is given about keys, and the bytes that it is lent
abbrev given_at : Start → (reads kr kw : List ℕ) → Given
given_at c reads kr kw = let a = c.args in given reads a.writes.now kr kw a.store.now a.loader.now

abbrev lent_at : Start → (mr memory stack log : List ℕ) → Bufs
lent_at c mr memory stack log = let a = c.args in lent_to memory stack a.changes.now a.fetched.now mr a.writable.now a.paid.now log

pub returns-then-not-may_store : goal.returns-then-not-may_store
returns-then-not-may_store c =
    let a = c.args in
    λ e x reads kr kw mr memory stack log d f.
    store_denied e x d f a.lent (given_at (goal.at-returns-then-not-may_store c).Start reads kr kw) a.run (lent_at (goal.at-returns-then-not-may_store c).Start mr memory stack log) (num a.key.now) a.v _ c.may_store.ensures _ _ c.stop.ensures
    c.if-not-may_store.true

pub returns-in_default : goal.returns-in_default
returns-in_default c =
    let a = c.args in
    λ e x reads kr kw mr memory stack log d f ek sixteen so.
    store_unpaid e x d f a.lent (given_at (goal.at-returns-in_default c).Start reads kr kw) a.run (lent_at (goal.at-returns-in_default c).Start mr memory stack log) (num a.key.now) a.v
    _ c.may_store.ensures c.if-not-may_store.false
    _ (c.plan_store-plan.ensures reads a.writes.now kr kw mr so.tables) _ c.pay.ensures
    _ _ c.stop-in_default.ensures c.in_default.is ek sixteen so

pub returns-then-not-plan : goal.returns-then-not-plan
returns-then-not-plan c =
    let a = c.args in
    λ e x reads kr kw mr memory stack log d f ek sixteen so.
    store_full e x d f a.lent (given_at (goal.at-returns-then-not-plan c).Start reads kr kw) a.run (lent_at (goal.at-returns-then-not-plan c).Start mr memory stack log) (num a.key.now) a.v
    _ c.may_store.ensures c.if-not-may_store.false
    _ (c.plan_store-plan.ensures reads a.writes.now kr kw mr so.tables) _ c.pay.ensures _ c.in-Some.is
    _ _ c.stop-then-not-plan.ensures (not-true _ c.if-not-plan.true) ek sixteen so

pub store-counts-requires : goal.store-counts-requires
store-counts-requires c =
    let a = c.args in
    let rest = c.requires.2 in
    store_ready a.lent (given_at (goal.at-store-counts-requires c).Start [] [] []) a.run.counts (key_bufs a.changes.now a.fetched.now rest.0 a.writable.now a.paid.now) rest.1 (num a.key.now) a.v
    _ (c.plan_store-plan.ensures [] a.writes.now [] [] rest.0 rest.1) (not-false _ c.if-not-plan.false)

pub returns : goal.returns
returns c =
    let a = c.args in
    λ e x reads kr kw mr memory stack log d f ek sixteen so.
    let plan = c.plan_store-plan.ensures reads a.writes.now kr kw mr so.tables in
    let kept = c.store-counts.auto in
    store_done e x d f a.lent (given_at (goal.at-returns c).Start reads kr kw) a.run (lent_at (goal.at-returns c).Start mr memory stack log) (num a.key.now) a.v
    _ c.may_store.ensures c.if-not-may_store.false
    _ plan _ c.pay.ensures _ c.in-Some.is
    _ _ _ _ kept.changes kept.fetched kept.paid (c.store-counts.ensures a.lent (given_at (goal.at-returns c).Start reads kr kw) mr a.writable.now so.tables plan)
    _ c.go_on.ensures (not-false _ c.if-not-plan.false) ek sixteen so
