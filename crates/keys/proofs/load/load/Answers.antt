-- `keys::load::load` meets its contract: the row put in is what the rule leaves. Assumes nothing.
use Rattle.words.specs.Bytes.{num}
use Rattle.keys.specs.Lent.{key_bufs}
use Rattle.keys.specs.LoadLaws.{loaded_so}
use Rattle.keys.proofs.load.load.Goals as goal

pub returns : goal.returns
returns c =
    let a = c.args in
    λ l g ch mr mw pd ok q. loaded_so l g a.c (key_bufs ch a.fetched.now mr mw pd) ok (num a.key.now) a.seen q _ _ c.put_if.ensures
