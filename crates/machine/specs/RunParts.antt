-- A run from its parts, and a run with one of them changed.
use Rattle.std.specs.Prelude.{ℕ}
use Rattle.keys.specs.declared.counts.Counts.{Counts}
use Rattle.meter.specs.declared.Meter.{Meter}
use Rattle.machine.specs.declared.run.Run.{Run}

abbrev pub run : (pc depth : ℕ) → Counts → (log events posted keyed replies : ℕ) → Meter → (fetches : ℕ) → Run
run pc depth counts log events posted keyed replies meter fetches = record {
  pc = pc;
  depth = depth;
  counts = counts;
  log = log;
  events = events;
  posted = posted;
  keyed = keyed;
  replies = replies;
  meter = meter;
  fetches = fetches;
}

abbrev pub with_place : Run → ℕ → Run
with_place r n = run n r.depth r.counts r.log r.events r.posted r.keyed r.replies r.meter r.fetches

abbrev pub with_depth : Run → ℕ → Run
with_depth r n = run r.pc n r.counts r.log r.events r.posted r.keyed r.replies r.meter r.fetches

abbrev pub with_counts : Run → Counts → Run
with_counts r c = run r.pc r.depth c r.log r.events r.posted r.keyed r.replies r.meter r.fetches

-- another end of the log, and another number of events
abbrev pub with_log : Run → (log events : ℕ) → Run
with_log r n k = run r.pc r.depth r.counts n k r.posted r.keyed r.replies r.meter r.fetches

abbrev pub with_posted : Run → ℕ → Run
with_posted r n = run r.pc r.depth r.counts r.log r.events n r.keyed r.replies r.meter r.fetches

abbrev pub with_keyed : Run → ℕ → Run
with_keyed r n = run r.pc r.depth r.counts r.log r.events r.posted n r.replies r.meter r.fetches

abbrev pub with_replies : Run → ℕ → Run
with_replies r n = run r.pc r.depth r.counts r.log r.events r.posted r.keyed n r.meter r.fetches

abbrev pub with_meter : Run → Meter → Run
with_meter r m = run r.pc r.depth r.counts r.log r.events r.posted r.keyed r.replies m r.fetches

abbrev pub with_used : Run → ℕ → Run
with_used r u = with_meter r (record { used = u; limit = r.meter.limit })

abbrev pub with_fetches : Run → ℕ → Run
with_fetches r n = run r.pc r.depth r.counts r.log r.events r.posted r.keyed r.replies r.meter n
