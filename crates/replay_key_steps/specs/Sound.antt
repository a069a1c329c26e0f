-- What a step asks of the tables that it is lent, and keeps true of those that it writes.
use Rattle.std.specs.Prelude.{List, ℕ}
use Rattle.tables.specs.Table.{Table}
use Rattle.keys.specs.Lent.{KeyBufs, key_bufs}
use Rattle.keys.specs.Sound.{Good, Loader}
use Rattle.keys.specs.declared.look.TableRows.{TableRows}
use Rattle.replay_key_steps.specs.declared.lent.Tables.{Tables}

-- the store is sorted, and so is the loader if there is one
abbrev pub Lends : TableRows → (store loader : List ℕ) → Type 0
Lends l store loader = Table 40 l.store store × Loader l.has_loader l.loader loader

-- the tables' bytes
abbrev pub bufs : Tables → KeyBufs
bufs t = key_bufs t.changes t.fetched t.readable t.writable t.paid

-- every table is good, with the counts beside it
abbrev pub Sound : Tables → Type 0
Sound t = Good t.counts (bufs t)
