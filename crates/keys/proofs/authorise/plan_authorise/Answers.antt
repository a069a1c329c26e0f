-- `keys::authorise::plan_authorise` meets its contract: each part is what its function ensures. Assumes nothing.
use Rattle.words.specs.Bytes.{num}
use Rattle.keys.specs.Lent.{key_bufs, given}
use Rattle.keys.specs.KeyLaws.{key_planned}
use Rattle.keys.proofs.authorise.plan_authorise.Goals as goal

pub returns : goal.returns
returns c =
    let a = c.args in
    λ l rd wr st ld ch fe pd ok.
    key_planned l (given rd wr a.keyed_reads.now a.keyed_writes.now st ld) a.c (key_bufs ch fe a.readable.now a.writable.now pd)
    ok a.base (num a.key.now)
    _ _ _ _ _ _ _ c.listed-write.ensures c.is_keyed-keyed.ensures c.has-written.ensures c.has-read.ensures
    c.key_price-price.ensures c.key_bytes-bytes.ensures c.key_room-room.ensures
