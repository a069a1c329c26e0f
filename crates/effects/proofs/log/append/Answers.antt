-- `effects::log::append` meets its contract: four parts are pasted one behind the other. Assumes nothing.
use native.Mathlib.Omega.{arith}
use Rattle.effects.specs.Log.{Effect}
use Rattle.effects.specs.AppendLaws.{no_room, pasted, appended}
use Rattle.effects.proofs.log.append.Goals as goal

pub returns-then-log-end : goal.returns-then-log-end
returns-then-log-end c = no_room _ _ _ (omega arith)

pub returns : goal.returns
returns c =
    let log = c.args.log.now in
    let e : Effect = record { kind = c.args.kind; word = c.args.word; bytes = c.args.«data».now } in
    let whole =
    pasted e c.args.end log (omega arith) (omega arith) _ _ _ _
    c.copy_in.ensures c.write.ensures c.write-2.ensures c.write-3.ensures in
    appended e c.args.end log (omega arith) (omega arith) _ whole
