-- `keys::store::store` meets its contract: three rows put in are what the rule leaves. Assumes nothing.
use Rattle.words.specs.Bytes.{num}
use Rattle.keys.specs.Lent.{key_bufs}
use Rattle.keys.specs.StoreLaws.{stored_so}
use Rattle.keys.proofs.store.store.Goals as goal

pub returns : goal.returns
returns c =
    let a = c.args in
    λ l g mr mw ok q.
    stored_so l g a.c (key_bufs a.changes.now a.fetched.now mr mw a.paid.now) ok (num a.key.now) a.v a.plan q
    _ _ _ _ _ _ c.put_if.ensures c.put_if-2.ensures c.add_if.ensures
