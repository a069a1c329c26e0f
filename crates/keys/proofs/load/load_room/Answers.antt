-- `keys::load::load_room` meets its contract: the other tables fit as they stand. Assumes nothing.
use mathlib.Core.Path.{◌∙◌}
use Rattle.words.specs.Bytes.{num}
use Rattle.keys.specs.Lent.{key_bufs}
use Rattle.keys.specs.LoadLaws.{load_fits}
use Rattle.keys.proofs.load.load_room.Goals as goal

pub returns : goal.returns
returns c =
    let a = c.args in
    λ l g ch mr mw pd ok q. c.room.ensures a.seen.value ∙ load_fits l g a.c (key_bufs ch a.fetched.now mr mw pd) ok (num a.key.now) a.seen q
