-- A sound state with one part changed is sound. Assumes nothing.
use Rattle.std.specs.Prelude.{◌≡◌, List, ℕ, ◌+◌, ◌*◌, ◌≤◌, ◌<◌, length, take}
use Rattle.std.proofs.Common.{sym, ◌∙◌, arith}
use Rattle.keys.specs.Lent.{rooms_of}
use Rattle.keys.specs.Sound.{Good}
use Rattle.keys.specs.Lent as tables
use Rattle.keys.specs.declared.counts.Counts.{Counts}
use Rattle.effects.specs.ReadBack.{effects_of}
use Rattle.effects.specs.Counts.{events}
use Rattle.machine.specs.Machine.{Env}
use Rattle.machine.specs.Lent.{Bufs, bufs}
use Rattle.machine.specs.Sound.{Sized, Logged, Counted, Metered, Sound}
use Rattle.machine.specs.RunParts.{with_place, with_depth, with_counts, with_log, with_posted, with_keyed, with_replies, with_used, with_fetches}
use Rattle.machine.specs.declared.run.Run.{Run}

-- ---- lent bytes with one part changed

abbrev pub with_memory : Bufs → List ℕ → Bufs
with_memory b mem = bufs mem b.stack b.keys b.log

abbrev pub with_stack : Bufs → List ℕ → Bufs
with_stack b st = bufs b.memory st b.keys b.log

abbrev pub with_tables : Bufs → tables.KeyBufs → Bufs
with_tables b ks = bufs b.memory b.stack ks b.log

abbrev pub with_records : Bufs → List ℕ → Bufs
with_records b log = bufs b.memory b.stack b.keys log

-- a sound state, part by part
sound : {e : Env} {s : List ℕ} {d : ℕ} {r : Run} {b : Bufs} → Sized e b → Good r.counts b.keys → Logged r.log b.log →
    Counted r.events r.posted r.keyed (effects_of (take r.log b.log)) → Metered e d r.meter r.fetches →
    r.depth ≤ 1024 → r.replies * 48 ≤ length s → r.pc < 4294967296 → Sound e s d r b
sound z t l c m n k p = record { sized = z; tables = t; logged = l; counted = c; metered = m; depth = n; replies = k; pc = p }

module _ {e : Env} {s : List ℕ} {d : ℕ} {r : Run} {b : Bufs} (so : Sound e s d r b) where
  pub place_sound : (pc : ℕ) → pc < 4294967296 → Sound e s d (with_place r pc) b
  place_sound pc h = sound so.sized so.tables so.logged so.counted so.metered so.depth so.replies h

  pub depth_sound : (n : ℕ) → n ≤ 1024 → Sound e s d (with_depth r n) b
  depth_sound n h = sound so.sized so.tables so.logged so.counted so.metered h so.replies so.pc

  pub replies_sound : (n : ℕ) → n * 48 ≤ length s → Sound e s d (with_replies r n) b
  replies_sound n h = sound so.sized so.tables so.logged so.counted so.metered so.depth h so.pc

  counted_sound : (posted keyed : ℕ) → Counted r.events posted keyed (effects_of (take r.log b.log)) →
      Sound e s d (with_keyed (with_posted r posted) keyed) b
  counted_sound posted keyed h = sound so.sized so.tables so.logged h so.metered so.depth so.replies so.pc

  pub posted_sound : (n : ℕ) → r.posted ≤ n → n ≤ 1048576 → Sound e s d (with_posted r n) b
  posted_sound n l h =
      let c = so.counted in
      counted_sound n r.keyed (record { events = c.events; no_more = omega (arith, c.no_more); posted = h; keyed = c.keyed })

  pub keyed_sound : (n : ℕ) → n ≤ 1048576 → Sound e s d (with_keyed r n) b
  keyed_sound n h = let c = so.counted in counted_sound r.posted n (record { events = c.events; no_more = c.no_more; posted = c.posted; keyed = h })

  -- more used, within the limit
  pub used_sound : (u : ℕ) → r.meter.used ≤ u → u ≤ e.limit → Sound e s d (with_used r u) b
  used_sound u l h =
      let m = so.metered in
      sound so.sized so.tables so.logged so.counted (record { limit = m.limit; within = h; some = omega (arith, m.some); above = omega (arith, m.above) }) so.depth so.replies so.pc

  -- another count of fetches, and as much used above it as is said
  pub fetches_sound : (n k : ℕ) → n + k ≤ r.meter.used → Sound e s k (with_fetches r n) b
  fetches_sound n k h =
      let m = so.metered in
      sound so.sized so.tables so.logged so.counted (record { limit = m.limit; within = m.within; some = m.some; above = h }) so.depth so.replies so.pc

  -- ---- with the bytes that belong to the part

  pub memory_sound : (mem : List ℕ) → length mem ≡ length b.memory → Sound e s d r (with_memory b mem)
  memory_sound mem h =
      let z = so.sized in
      sound (record { memory = h ∙ z.memory; stack = z.stack; rooms = z.rooms; log = z.log }) so.tables so.logged so.counted so.metered so.depth so.replies so.pc

  pub stack_sound : (st : List ℕ) → length st ≡ length b.stack → Sound e s d r (with_stack b st)
  stack_sound st h =
      let z = so.sized in
      sound (record { memory = z.memory; stack = h ∙ z.stack; rooms = z.rooms; log = z.log }) so.tables so.logged so.counted so.metered so.depth so.replies so.pc

  pub tables_sound : (c : Counts) (ks : tables.KeyBufs) → rooms_of ks ≡ rooms_of b.keys → Good c ks → Sound e s d (with_counts r c) (with_tables b ks)
  tables_sound c ks same good =
      let z = so.sized in
      sound (record { memory = z.memory; stack = z.stack; rooms = z.rooms ∙ sym same; log = z.log }) good so.logged so.counted so.metered so.depth so.replies so.pc

  pub log_sound : (n k : ℕ) (log : List ℕ) → length log ≡ length b.log → Logged n log → k ≡ events (effects_of (take n log)) → k ≤ r.posted →
      Sound e s d (with_log r n k) (with_records b log)
  log_sound n k log same h q no_more =
      let z = so.sized in
      let c = so.counted in
      sound (record { memory = z.memory; stack = z.stack; rooms = z.rooms; log = z.log ∙ sym same }) so.tables h (record { events = q; no_more = no_more; posted = c.posted; keyed = c.keyed }) so.metered so.depth so.replies so.pc
