-- `keys::room::put_if` meets its contract: nothing is put in, or what has room. Assumes nothing.
use Rattle.keys.specs.RoomLaws.{put_on}
use Rattle.keys.proofs.room.put_if.Goals as goal

pub returns-then-when : goal.returns-then-when
returns-then-when c =
    put_on _ _ _ c.requires.0 _ _ _ _ c.put.auto.t c.put.ensures c.if-when.true c.requires.1 _ c.unwrap_or.ensures
