-- Each way out of a load is what the rule comes to. Assumes nothing.
use Rattle.std.specs.Prelude.{◌≡◌, Bool, true, false, List, ℕ, length, refl}
use Rattle.std.proofs.Common.{arith}
use Rattle.state.specs.declared.regs.RegFile.{RegFile}
use Rattle.keys.specs.Values.{may_load, look}
use Rattle.keys.specs.Steps.{fits, loaded}
use Rattle.keys.specs.Lent.{Given, key_env_of, keys_of, rooms_of}
use Rattle.keys.specs.Sound.{Leaves}
use Rattle.keys.specs.Lent as tables
use Rattle.keys.specs.Known as known
use Rattle.keys.specs.declared.counts.Counts.{Counts}
use Rattle.keys.specs.declared.look.Look.{Look}
use Rattle.keys.specs.declared.look.TableRows.{TableRows}
use Rattle.machine.specs.Machine.{Env, Machine, reg_to, keys_to, bare}
use Rattle.machine.specs.Rules.{Rule, next, need}
use Rattle.machine.specs.StorageRules.{loading}
use Rattle.machine.specs.Lent.{Bufs}
use Rattle.machine.specs.Sound.{machine_of}
use Rattle.machine.specs.RunParts.{with_counts}
use Rattle.machine.specs.SoundLaws.{with_tables, tables_sound}
use Rattle.machine.specs.Does.{sets, stops, Played, Does}
use Rattle.machine.proofs.TurnLaws.{need_on, need_stops, sets_next}
use Rattle.machine.specs.declared.run.Run.{Run}
use Rattle.machine.specs.declared.turn.Turn.{Turn}
use Rattle.ops_storage.specs.ConditionLaws.{right_denied, right_given, room_is}
use Rattle.state.specs.declared.fault.Fault.TheVariants.{NoRoom, UndeclaredSlot}

module _ (e : Env) (s : List ℕ) (d : ℕ) (f : RegFile) (l : TableRows) (g : Given) (r : Run) (b : Bufs) (to k : ℕ) where
  abbrev ks : known.Keys
  ks = keys_of r.counts b.keys

  -- the tables after a load
  abbrev fetched_to : List ℕ → tables.KeyBufs
  fetched_to u = tables.key_bufs b.keys.changes u b.keys.may_read b.keys.may_write b.keys.paid

  -- the rule's parts over what a run is given about keys
  abbrev may : known.KeyEnv → Bool
  may x = may_load x.reads x.writes ks.may_read k

  abbrev after : known.KeyEnv → Machine
  after x = reg_to (keys_to (bare (machine_of s r f b)) (loaded x ks k)) to (look x ks k).value

  abbrev fetching : known.KeyEnv → Rule
  fetching x = need (fits e.rooms (loaded x ks k)) 48 (next (after x))

  abbrev x : known.KeyEnv
  x = key_env_of l g

  module _ (right : Bool) (q : right ≡ may x) where
    pub load_denied : (a : Bufs) (t : Turn) → t ≡ stops r UndeclaredSlot → right ≡ false → e.keys ≡ x → Does e s d (loading e to k) r f b a t
    unfolding loading machine_of
    load_denied a t w o = λ ek sixteen so. rw w (right_denied ek may fetching q o)

    module _ (y : right ≡ true) (room : Bool) (p : room ≡ fits (rooms_of b.keys) (loaded x ks k)) where
      allowed : (a : Bufs) (t : Turn) → e.keys ≡ x → Played e s d f r.meter.used r.fetches (fetching x) t a →
          Played e s d f r.meter.used r.fetches (loading e to k (bare (machine_of s r f b))) t a
      unfolding loading machine_of
      allowed a t ek h = right_given ek may fetching q y h

      pub load_full : (a : Bufs) (t : Turn) → t ≡ stops r NoRoom → room ≡ false → e.keys ≡ x → Does e s d (loading e to k) r f b a t
      load_full a t w o = λ ek sixteen so. rw w (allowed a (stops r NoRoom) ek (need_stops NoRoom 48 refl (omega arith) (room_is e b (loaded x ks k) so.sized.rooms p o)))

      module _ (n : Counts) (u : List ℕ) (seen : Look) (z : seen ≡ look x ks k) (lu : length u ≡ length b.keys.fetched) (left : Leaves (loaded x ks k) n (fetched_to u)) where
        same : rooms_of (fetched_to u) ≡ rooms_of b.keys
        same = rw lu

        abbrev out : Bufs
        out = with_tables b (fetched_to u)

        abbrev done : Turn
        done = sets (with_counts r n) to seen.value

        pub load_done : (t : Turn) → t ≡ done → room ≡ true → e.keys ≡ x → Does e s d (loading e to k) r f b out t
        unfolding machine_of
        load_done t w o =
            λ ek sixteen so. rw w
            (allowed out done ek
            (need_on 48 (room_is e b (loaded x ks k) so.sized.rooms p o)
            (sets_next to seen.value sixteen (rw (z, left.are)) (tables_sound so n (fetched_to u) same left.good))))
