-- What a run leaves zero whatever its end.
use Rattle.std.specs.Prelude.{List, ℕ}
use Rattle.keys.specs.Lent as tables
use Rattle.opening.specs.Opening.{Lent}
use Rattle.interp.specs.Call.{wiped, lent_as}

-- every buffer zero but the changes and the log
abbrev pub wiped_but : Lent → (changes log : List ℕ) → Lent
wiped_but b changes log =
    let k = b.run.keys in
    lent_as (wiped b.run.memory) (wiped b.run.stack) (tables.key_bufs changes (wiped k.fetched) (wiped k.may_read) (wiped k.may_write) (wiped k.paid)) log (wiped b.starts)
