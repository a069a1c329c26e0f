-- `ops_storage::access` meets its contract: the key's region decides, then the load or the store. Assumes nothing.
use mathlib.Core.List.{List}
use Prim.Native.Nat.{ℕ}
use Rattle.state.specs.Regs.{file}
use Rattle.state.specs.declared.regs.RegFile.{RegFile}
use Rattle.machine.specs.Lent.{Bufs, lent_to}
use Rattle.ops_storage.specs.RegionLaws.{key_outside, load_inside, store_inside}
use Rattle.ops_storage.proofs.access.Goals as goal
use Rattle.ops_storage.proofs.access.Goals.{Start}

abbrev file_at : Start → RegFile
file_at c = file c.args.regs.now

abbrev lent_at : Start → (stack log : List ℕ) → Bufs
lent_at c stack log =
    let a = c.args in lent_to a.memory.now stack a.changes.now a.fetched.now a.readable.now a.writable.now a.paid.now log

pub load_key-requires : goal.load_key-requires
load_key-requires c = (c.requires.0, c.requires.1, (c.args.writable.now, c.args.paid.now, c.requires.2))

pub store_key-requires : goal.store_key-requires
store_key-requires c = (c.requires.0, c.requires.1, (c.args.readable.now, c.requires.2))

pub returns-in-SLoad : goal.returns-in-SLoad
returns-in-SLoad c =
    let a = c.args in
    λ e s kr kw stack log d ek.
    load_inside e s d (file_at (goal.at-returns-in-SLoad c).Start) a.run (lent_at (goal.at-returns-in-SLoad c).Start stack log) a.o _ _ c.key_register.ensures c.read-place.ensures _ _
    _ c.in-Some.ensures.0 c.in-Some.ensures.1 _ _ c.in-SLoad.is (c.load_key.ensures e s kr kw a.writable.now a.paid.now a.memory.now stack log d (file_at (goal.at-returns-in-SLoad c).Start) ek)

pub returns-in-SStore : goal.returns-in-SStore
returns-in-SStore c =
    let a = c.args in
    λ e s kr kw stack log d ek.
    store_inside e s d (file_at (goal.at-returns-in-SStore c).Start) a.run (lent_at (goal.at-returns-in-SStore c).Start stack log) a.o _ _ c.key_register.ensures c.read-place.ensures _ _
    _ c.in-Some.ensures.0 c.in-Some.ensures.1 _ _ _ c.in-SStore.is c.read.ensures (c.store_key.ensures e s a.reads.now kr kw a.readable.now a.memory.now stack log d (file_at (goal.at-returns-in-SStore c).Start) ek)

pub returns-in_default : goal.returns-in_default
returns-in_default c =
    let a = c.args in
    λ e s kr kw stack log d ek.
    key_outside e s d (file_at (goal.at-returns-in_default c).Start) a.run (lent_at (goal.at-returns-in_default c).Start stack log) a.o _ _ c.key_register.ensures c.read-place.ensures _ _
    c.in_default.ensures c.stop.ensures
