-- Before the first step: no rows, nothing known.
use Rattle.std.specs.Prelude.{[]}
use Rattle.keys.specs.Known.{Keys}
use Rattle.keys.specs.declared.counts.Counts.{Counts}

-- no rows in any table
abbrev pub no_rows : Counts
no_rows = record { changes = 0; fetched = 0; reads = 0; writes = 0; paid = 0 }

-- nothing known of any key
abbrev pub no_keys : Keys
no_keys = record { changes = []; fetched = []; may_read = []; may_write = []; paid = [] }
