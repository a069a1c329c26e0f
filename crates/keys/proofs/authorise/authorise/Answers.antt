-- `keys::authorise::authorise` meets its contract: two keys put in are what the rule leaves. Assumes nothing.
use Rattle.words.specs.Bytes.{num}
use Rattle.keys.specs.Lent.{key_bufs}
use Rattle.keys.specs.KeyLaws.{authorised_so}
use Rattle.keys.proofs.authorise.authorise.Goals as goal

pub returns : goal.returns
returns c =
    let a = c.args in
    λ l g base ch fe pd ok q.
    authorised_so l g a.c (key_bufs ch fe a.readable.now a.writable.now pd) ok base (num a.key.now) a.plan q
    _ _ _ _ c.add_if-reads.ensures c.add_if-writes.ensures
