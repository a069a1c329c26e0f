-- `keys::room::room` meets its contract: one law for each way. Assumes nothing.
use Rattle.std.specs.Prelude.{◌≡◌, true, false, not, ◌-◌, ◌*◌, length}
use Rattle.std.proofs.Common.{sym, ap, ◌∙◌, leb-true}
use Rattle.std.proofs.lemmas.Bool.{leb-false}
use Rattle.words.specs.Bytes.{num}
use Rattle.keys.specs.Values.{row}
use Rattle.keys.specs.RoomLaws.{room_off, room_free, room_else}
use Rattle.keys.proofs.room.room.Goals as goal
use Rattle.keys.proofs.room.room.Goals.{then-not-when, else-not-when}

pub returns-then-t : goal.returns-then-t
returns-then-t g c =
    let t = c.args.t in
    λ v. c.if-t.true ∙ elim c.if-not-when.branch [
      | then-not-when w ↦ room_off _ _ _ t.table c.args.when (row (num c.args.key.now) v) w.if-not-when.true
      | else-not-when w ↦
          room_free _ _ _ t.table c.args.when (row (num c.args.key.now) v) w.if-not-when.false
          (leb-true g.row.W (length t.bytes.now - t.count * g.row.W) (sym w.value-is ∙ c.if-t.true))
    ]

pub returns-else-t : goal.returns-else-t
returns-else-t g c =
    let t = c.args.t in
    λ v. c.has.ensures ∙ elim c.if-not-when.branch [
      | then-not-when w ↦ let f : false ≡ true = sym c.if-t.false ∙ w.value-is ∙ ap not w.if-not-when.true in absurd cc
      | else-not-when w ↦
          room_else _ _ _ t.table c.args.when (row (num c.args.key.now) v) w.if-not-when.false
          (leb-false g.row.W (length t.bytes.now - t.count * g.row.W) (sym w.value-is ∙ c.if-t.false))
    ]
