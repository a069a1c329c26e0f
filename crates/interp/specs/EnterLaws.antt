-- From an accepted opening to the run's start, and from its end to the call's. Assumes nothing.
use Rattle.std.specs.Prelude.{◌≡◌, refl, Bool, true, false, ℕ, suc, ◌+◌, ◌-◌, ◌*◌, ◌/◌, ◌%◌, ◌≤◌, eqb, take, drop, replicate, Some, None}
use Rattle.std.proofs.Math.Path.{sym, ap}
use Rattle.std.proofs.Common.{◌∙◌, length-drop, length-take-le}
use mathlib.Core.List.{List, ◌++◌}
use native.Mathlib.Omega.{arith}
use Rattle.std.proofs.Math.ListN.{length}
use Rattle.words.specs.Bytes.{words_of, words_in}
use Rattle.words.specs.Choice.{pick, both}
use Rattle.meter.specs.Prices.{dispatch_price}
use Rattle.tables.specs.Rows.{rows}
use Rattle.tables.specs.Checked.{risingb, checked_of}
use Rattle.tables.specs.CheckTheorems.{whole_table}
use Rattle.container.specs.Entries.{slots, slot_bytes}
use Rattle.container.specs.Reader.{read_of}
use Rattle.container.specs.declared.entries.Slots.{Slots}
use Rattle.starts.specs.Starts.{starts_of}
use Rattle.starts.proofs.StartsLaws.{starts_end}
use Rattle.starts.proofs.WalkLaws.{holds_marked}
use Rattle.keys.specs.Lent.{loader_of, rooms_of}
use Rattle.keys.specs.RoomLaws.{drop_zeroes}
use Rattle.keys.specs.OpeningLaws.{Zero, opening_good, opening_keys}
use Rattle.effects.specs.Log.{log_of}
use Rattle.effects.specs.ReadBack.{read_back, effects_of}
use Rattle.effects.specs.Counts.{events}
use Rattle.state.specs.Regs.{cleared}
use Rattle.machine.specs.Machine.{Env}
use Rattle.machine.specs.Turns.{End, halted, faulted, run_of}
use Rattle.machine.specs.Sound.{stack_of, machine_of, Sound}
use Rattle.machine.specs.declared.host.Host.{Host}
use Rattle.machine.specs.declared.run.Run.{Run}
use Rattle.opening.specs.Opening.{Lent, Opening, memory_of, env_of, machine_for, opening_read}
use Rattle.opening.specs.Opened.{Standing}
use Rattle.opening.specs.declared.open.Opened.{Opened}
use Rattle.interp.specs.BufferLaws.{length_wiped, laid_length}
use Rattle.interp.specs.Call.{wiped, called, running, ending}
use Rattle.interp.specs.Ties.{GivenParts, parts, Suits}
use Rattle.interp.specs.Held.{Sizes}
use Rattle.interp.specs.Runs.{Begun, Starts, Runs}
use Rattle.interp.specs.Begins.{first_run, Begins}
use Rattle.interp.specs.Finished.{Finishes}
use Rattle.interp.specs.Entered.{Entered, Cut}
use Rattle.interp.specs.declared.answer.Answer.{Answer}
use Rattle.interp.specs.declared.exec.Ended.{Ended}

-- words that stand in bytes are those of their part
standing_words : (s : List ℕ) (l : Slots) (words : List ℕ) → Standing s l.at l.count words → words ≡ words_in (slot_bytes s l)
standing_words s l words h =
    let size : length (slot_bytes s l) ≡ l.count * 8 = length-take-le (l.count * 8) (drop l.at s) (omega (arith, length-drop l.at s, h.within)) in
    let n : length (slot_bytes s l) / 8 ≡ l.count = omega (arith, size) in
    sym h.are ∙ sym (ap (λ (k : ℕ). words_of k (slot_bytes s l)) n)

-- a checked table has as many rows as fit its bytes
whole_count : (t : List ℕ) (n : ℕ) → checked_of 40 t ≡ Some n → length t / 40 ≡ n
unfolding checked_of
whole_count t n e = go (both (eqb (length t % 40) 0) (risingb 0 (rows 40 (length t / 40) t))) e
  where
    go : (b : Bool) → pick b (Some (length t / 40)) None ≡ Some n → length t / 40 ≡ n
    go true h = cc
    go false h = absurd (let z : ◌≡◌ {A = ℕ} 0 1 = cc in omega arith)

-- what was zeroed is zero
zero_of : (t u : List ℕ) → t ≡ wiped u → Zero t
zero_of t u e = e ∙ ap (λ (n : ℕ). replicate n 0) (sym (ap length e ∙ length_wiped u))

-- the map's size too
pub record SameSizes (b c : Lent) : Type 0 where
  pub run : Sizes b.run c.run
  pub starts : length b.starts ≡ length c.starts

-- an end looks at the buffers' sizes alone
ending_same : (end : End) (b c : Lent) → SameSizes b c → ending end b ≡ ending end c
ending_same (halted m) b c s = let z = s.run in rw (z.memory, z.stack, z.changes, z.fetched, z.readable, z.writable, z.paid, z.log, s.starts)
ending_same (faulted w k) b c s = let z = s.run in rw (z.memory, z.stack, z.changes, z.fetched, z.readable, z.writable, z.paid, z.log, s.starts)

-- every part lies within the container
pub record PartsWithin (o : Opened) (s : List ℕ) : Type 0 where
  pub code : o.layout.code_at + o.layout.code ≤ length s
  pub consts : o.layout.consts_at + o.layout.consts * 8 ≤ length s
  pub reads : o.entry.reads.at + o.entry.reads.count * 8 ≤ length s
  pub writes : o.entry.writes.at + o.entry.writes.count * 8 ≤ length s
  pub keyed_reads : o.entry.keyed_reads.at + o.entry.keyed_reads.count * 8 ≤ length s
  pub keyed_writes : o.entry.keyed_writes.at + o.entry.keyed_writes.count * 8 ≤ length s

module _ {o : Opened} {limit : ℕ} {host : Host} {s st ld rp pre : List ℕ} {b : Lent} (x : Entered o limit host s st ld rp pre b) where
  pub within : PartsWithin o s
  within =
      let f = x.found in
      let w : PartsWithin o x.input.container = record {
        code = f.code_within;
        consts = f.consts.within;
        reads = f.reads.within;
        writes = f.writes.within;
        keyed_reads = f.keyed_reads.within;
        keyed_writes = f.keyed_writes.within;
      } in
      rw x.container at w

  -- what stands in the input's bytes stands in these
  here : (l : Slots) (words t : List ℕ) → t ≡ slot_bytes s l → Standing x.input.container l.at l.count words → words ≡ words_in t
  here l words t e h = (rw x.container at (standing_words x.input.container l words h)) ∙ ap words_in (sym e)

  abbrev env : Env
  env = env_of x.input b x.found.container x.found.entry

  store_whole : checked_of 40 st ≡ Some o.lent.store
  store_whole = rw x.store at x.found.store

  loader_whole : o.lent.has_loader ≡ true → checked_of 40 ld ≡ Some o.lent.loader
  loader_whole p = rw x.loader at (x.found.loader (sym x.found.has_loader ∙ p))

  store_is : rows 40 (length x.input.store / 40) x.input.store ≡ rows 40 o.lent.store st
  store_is = rw x.store (ap (λ (n : ℕ). rows 40 n st) (whole_count st o.lent.store store_whole))

  loader_is : loader_of x.input.has_loader (rows 40 (length x.input.loader / 40) x.input.loader)
      ≡ loader_of o.lent.has_loader (rows 40 o.lent.loader ld)
  loader_is = rw (← x.found.has_loader, x.loader) (go o.lent.has_loader loader_whole)
    where
      go : (p : Bool) → (p ≡ true → checked_of 40 ld ≡ Some o.lent.loader) →
          loader_of p (rows 40 (length ld / 40) ld) ≡ loader_of p (rows 40 o.lent.loader ld)
      go true h = ap (λ (n : ℕ). loader_of true (rows 40 n ld)) (whole_count ld o.lent.loader (h refl))
      go false h = refl

  module _ {co cs r w kr kw : List ℕ} (q : Cut o s co cs r w kr kw) where
    code_is : x.found.container.code ≡ co
    code_is = sym (q.code_is ∙ (rw x.container at x.found.code))

    -- D, by the code's part
    abbrev price : ℕ
    price = dispatch_price (length co)

    -- what the run is given, with the map that was made
    abbrev given : List ℕ → GivenParts
    given starts = parts co cs r w kr kw st ld rp starts o.lent host

    code_small : length co ≤ 65536
    code_small = rw code_is at x.found.code_small

    module _ {a : Lent} (bg : Begins co pre b a) where
      suits : Suits env (given a.starts)
      unfolding env_of
      suits =
          let f = x.found in
          record {
            code = code_is;
            consts = here (slots o.layout.consts_at o.layout.consts) f.container.consts cs q.consts_are f.consts;
            size = bg.starts.size ∙ length_wiped b.starts ∙ x.starts_size;
            starts = rw code_is (holds_marked (length b.starts) (starts_of co) a.starts
                (λ p h. starts_end co p (omega (arith, code_small, x.starts_size))) bg.starts);
            keys = λ i. record {
              reads = here o.entry.reads f.entry.reads r q.reads_are f.reads i;
              writes = here o.entry.writes f.entry.writes w q.writes_are f.writes i;
              keyed_reads = here o.entry.keyed_reads f.entry.keyed_reads kr q.keyed_reads_are f.keyed_reads i;
              keyed_writes = here o.entry.keyed_writes f.entry.keyed_writes kw q.keyed_writes_are f.keyed_writes i;
              store = store_is i;
              loader = loader_is i;
            };
            store = whole_table 40 st (omega arith) o.lent.store store_whole;
            loader = λ p. whole_table 40 ld (omega arith) o.lent.loader (loader_whole p);
            host = x.host_is;
          }

      abbrev first : Run
      first = first_run x.found.entry.offset price x.input.limit

      memory_long : length a.run.memory ≡ length b.run.memory
      memory_long = ap length bg.memory ∙ laid_length b.run.memory pre

      rooms_are : rooms_of b.run.keys ≡ rooms_of a.run.keys
      rooms_are = λ i. record {
        changes = sym (ap length bg.changes ∙ length_wiped b.run.keys.changes) i;
        fetched = sym (ap length bg.fetched ∙ length_wiped b.run.keys.fetched) i;
        may_read = sym (ap length bg.readable ∙ length_wiped b.run.keys.may_read) i;
        may_write = sym (ap length bg.writable ∙ length_wiped b.run.keys.may_write) i;
        paid = sym (ap length bg.paid ∙ length_wiped b.run.keys.paid) i;
      }

      sound : Sound env rp price first a.run
      unfolding env_of effects_of read_back log_of events
      sound =
          let zl = zero_of a.run.log b.run.log bg.log in
          let n : length a.run.log - 0 ≡ length a.run.log = omega arith in
          record {
            sized = record {
              memory = memory_long ∙ x.memory_size;
              stack = ap length bg.stack ∙ length_wiped b.run.stack ∙ x.stack_size;
              rooms = rooms_are;
              log = sym (ap length bg.log ∙ length_wiped b.run.log);
            };
            tables = opening_good a.run.keys (record {
              changes = zero_of a.run.keys.changes b.run.keys.changes bg.changes;
              fetched = zero_of a.run.keys.fetched b.run.keys.fetched bg.fetched;
              may_read = zero_of a.run.keys.may_read b.run.keys.may_read bg.readable;
              may_write = zero_of a.run.keys.may_write b.run.keys.may_write bg.writable;
              paid = zero_of a.run.keys.paid b.run.keys.paid bg.paid;
            });
            logged = record { within = omega arith; small = tt; is = refl; rest = rw n zl };
            counted = record { events = refl; no_more = omega arith; posted = omega arith; keyed = omega arith };
            metered = record { limit = refl; within = rw code_is at x.found.afford; some = omega arith; above = omega arith };
            depth = omega arith;
            replies = omega arith;
            pc = x.found.offset_small;
          }

      memory_is : a.run.memory ≡ memory_of x.input.preload
      memory_is = bg.memory ∙ rw (x.memory_size, x.preload) (ap (λ (z : List ℕ). take 65536 pre ++ z) (drop_zeroes (length pre) 65536))

      machine_is : machine_of rp first cleared a.run ≡ machine_for x.input x.found.container x.found.entry
      unfolding machine_of machine_for stack_of effects_of read_back
      machine_is = rw (← memory_is, code_is, x.replies, opening_keys a.run.keys)

      module _ {start : Run} (j : start ≡ first_run o.entry.offset o.used limit) where
        start_is : start ≡ first
        start_is =
            let f = x.found in
            j ∙ (λ i. first_run (f.offset i) ((f.used ∙ ap (λ (c : List ℕ). dispatch_price (length c)) code_is) i) (sym x.limit_is i))

        begun : Begun env (given a.starts) start a.run
        begun = rw start_is (record { suits = suits; none = refl; sound = sound })

        pub starting : Starts (given a.starts) start a.run
        starting = record { env = env; begun = begun }

        -- the run from the state is the machine's from the opening
        runs_are : run_of (suc (env.limit - start.meter.used)) env (machine_of rp start cleared a.run)
            ≡ run_of (suc (x.input.limit - dispatch_price (length x.found.container.code))) env (machine_for x.input x.found.container x.found.entry)
        unfolding env_of
        runs_are =
            ap (λ (r : Run). run_of (suc (env.limit - r.meter.used)) env (machine_of rp r cleared a.run)) start_is
            ∙ ap (run_of (suc (x.input.limit - price)) env) machine_is
            ∙ ap (λ (c : List ℕ). run_of (suc (x.input.limit - dispatch_price (length c))) env (machine_for x.input x.found.container x.found.entry)) (sym code_is)

        pub entered : {c z : Lent} {e : Ended} {r : Answer} → Runs (given a.starts) start a.run e c.run → Finishes e c r z →
            SameSizes c b → called r z ≡ running (opening_read x.input b (read_of x.input.container)) b
        unfolding running env_of machine_for
        entered {c} {z} {e} {r} run fin same =
            let end = run_of (suc (env.limit - start.meter.used)) env (machine_of rp start cleared a.run) in
            fin env rp end (run env begun) ∙ ending_same end c b same ∙ ap (λ (y : End). ending y b) runs_are
            ∙ ap (λ (y : Opening). running y b) (sym x.found.is)
