-- `finish` meets its contract. Assumes nothing.
use Rattle.std.proofs.Common.{sym, ap, ◌∙◌}
use Rattle.std.specs.Prelude.{List, ℕ}
use Rattle.opening.specs.Opening.{Lent}
use Rattle.keys.specs.Lent as tables
use Rattle.interp.specs.Call.{called, lent_as}
use Rattle.interp.specs.Held.{held_with}
use Rattle.interp.proofs.finish.finish.Goals as goal

-- these changes and this log in the place of a work's
abbrev with : Lent → (changes log : List ℕ) → Lent
with b ch lg =
    let k = b.run.keys in
    lent_as b.run.memory b.run.stack (tables.key_bufs ch k.fetched k.may_read k.may_write k.paid) lg b.starts

pub returns-clause-finishes : goal.returns-clause-finishes
returns-clause-finishes c =
    let z = c.wipe_work.ensures.wiped in
    let b = held_with c.args.work.now c.args.starts.now in
    λ e s end t. ap (λ (y : Lent). called c.close.result (with y c.close.new.changes c.close.new.log)) z ∙ c.close.ensures b (ap (λ (y : Lent). y.run.keys.changes) (sym z)) (ap (λ (y : Lent). y.run.log) (sym z)) e s end t
