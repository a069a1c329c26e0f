-- `keys::store::plan_store` meets its contract: each part is what its function ensures. Assumes nothing.
use Rattle.words.specs.Bytes.{num}
use Rattle.keys.specs.Lent.{key_bufs, given}
use Rattle.keys.specs.StoreLaws.{planned}
use Rattle.keys.proofs.store.plan_store.Goals as goal

pub returns : goal.returns
returns c =
    let a = c.args in
    λ rd wr kr kw mr ok.
    planned a.lent (given rd wr kr kw a.store.now a.loader.now) a.c
    (key_bufs a.changes.now a.fetched.now mr a.writable.now a.paid.now) ok (num a.key.now) a.v
    _ _ _ _ (rw c.loader_table-loader.ensures at c.look_up-look.ensures) c.pays_fresh-fresh.ensures c.store_price-price.ensures (c.store_room-room.ensures a.v)
