-- Each way out of a store is what the rule comes to. Assumes nothing.
use Rattle.std.specs.Prelude.{◌≡◌, Bool, true, false, List, ℕ, ◌+◌, length, Option, Some, None, refl}
use Rattle.std.proofs.Math.Path.{ap}
use Rattle.std.proofs.Common.{◌∙◌, arith}
use Rattle.state.specs.declared.regs.RegFile.{RegFile}
use Rattle.keys.specs.Values.{may_store}
use Rattle.keys.specs.Steps.{fits, stored, store_price_at}
use Rattle.keys.specs.StorePlans.{store_plan}
use Rattle.keys.specs.Lent.{Given, key_env_of, keys_of, rooms_of}
use Rattle.keys.specs.Sound.{Leaves}
use Rattle.keys.specs.Lent as tables
use Rattle.keys.specs.Known as known
use Rattle.keys.specs.declared.counts.Counts.{Counts}
use Rattle.keys.specs.declared.look.TableRows.{TableRows}
use Rattle.keys.specs.declared.store.StorePlan.{StorePlan}
use Rattle.machine.specs.Machine.{Env, Machine, keys_to, bare}
use Rattle.machine.specs.Rules.{Rule, next, need, pay}
use Rattle.machine.specs.StorageRules.{storing}
use Rattle.machine.specs.Lent.{Bufs}
use Rattle.machine.specs.Sound.{machine_of, Sound}
use Rattle.machine.specs.RunParts.{with_counts}
use Rattle.machine.specs.SoundLaws.{with_tables, tables_sound}
use Rattle.machine.specs.Does.{paid_by, goes, stops, Played, Does}
use Rattle.machine.proofs.TurnLaws.{need_on, need_stops, pay_on, pay_stops, goes_next, pays_on, pays_not}
use Rattle.machine.specs.declared.run.Run.{Run}
use Rattle.machine.specs.declared.turn.Turn.{Turn}
use Rattle.ops_storage.specs.ConditionLaws.{right_denied, right_given, room_is}
use Rattle.state.specs.declared.fault.Fault.TheVariants.{NoRoom, OutOfMeter, UndeclaredSlot}

module _ (e : Env) (s : List ℕ) (d : ℕ) (f : RegFile) (l : TableRows) (g : Given) (r : Run) (b : Bufs) (k v : ℕ) where
  abbrev ks : known.Keys
  ks = keys_of r.counts b.keys

  abbrev before : Machine
  before = bare (machine_of s r f b)

  abbrev u : ℕ
  u = r.meter.used

  abbrev j : ℕ
  j = r.fetches

  -- the tables after a store
  abbrev stored_to : (changes fetched paid : List ℕ) → tables.KeyBufs
  stored_to uc uf up = tables.key_bufs uc uf b.keys.may_read b.keys.may_write up

  -- the rule's parts over what a run is given about keys
  abbrev may : known.KeyEnv → Bool
  may x = may_store x.writes ks.may_write k

  abbrev after : known.KeyEnv → Machine
  after x = keys_to before (stored x ks k v)

  abbrev keeping : known.KeyEnv → Rule
  keeping x = need (fits e.rooms (stored x ks k v)) 48 (next (after x))

  abbrev paying : known.KeyEnv → Rule
  paying x = pay (store_price_at x ks k v) (keeping x)

  abbrev x : known.KeyEnv
  x = key_env_of l g

  module _ (right : Bool) (q : right ≡ may x) where
    pub store_denied : (a : Bufs) (t : Turn) → t ≡ stops r UndeclaredSlot → right ≡ false → e.keys ≡ x → Does e s d (storing e k v) r f b a t
    unfolding storing machine_of
    store_denied a t w o = λ ek sixteen so. rw w (right_denied ek may paying q o)

    module _ (y : right ≡ true) (plan : StorePlan) (p : plan ≡ store_plan (rooms_of b.keys) x ks k v) (bill : Option Run) (h : bill ≡ paid_by r plan.price) where
      allowed : (a : Bufs) (t : Turn) → e.keys ≡ x → Played e s d f u j (paying x) t a → Played e s d f u j (storing e k v before) t a
      unfolding storing machine_of
      allowed a t ek z = right_given ek may paying q y z

      abbrev price : ℕ
      price = store_price_at x ks k v

      price_is : bill ≡ paid_by r price
      unfolding store_plan
      price_is = h ∙ ap (λ (z : StorePlan). paid_by r z.price) p

      fits_is : plan.room ≡ fits (rooms_of b.keys) (stored x ks k v)
      unfolding store_plan
      fits_is = ap (λ (z : StorePlan). z.room) p

      pub store_unpaid : (a : Bufs) (t : Turn) → t ≡ stops r OutOfMeter → bill ≡ None → e.keys ≡ x → Does e s d (storing e k v) r f b a t
      unfolding machine_of
      store_unpaid a t w o = λ ek sixteen so. rw w (allowed a (stops r OutOfMeter) ek (pay_stops (pays_not so price price_is o)))

      module _ (rest : Run) (o : bill ≡ Some rest) where
        settled : (a : Bufs) (t : Turn) → e.keys ≡ x → Sound e s d r b → Played e s d f (u + price) j (keeping x) t a →
            Played e s d f u j (storing e k v before) t a
        unfolding machine_of
        settled a t ek so z = allowed a t ek (pay_on (pays_on so price price_is o).passed z)

        pub store_full : (a : Bufs) (t : Turn) → t ≡ stops rest NoRoom → plan.room ≡ false → e.keys ≡ x → Does e s d (storing e k v) r f b a t
        store_full a t w n =
            λ ek sixteen so. rw w (settled a (stops rest NoRoom) ek so (need_stops NoRoom 48 refl (omega arith) (room_is e b (stored x ks k v) so.sized.rooms fits_is n)))

        module _ (n : Counts) (uc uf up : List ℕ) (lc : length uc ≡ length b.keys.changes) (lf : length uf ≡ length b.keys.fetched) (lp : length up ≡ length b.keys.paid) (left : Leaves (stored x ks k v) n (stored_to uc uf up)) where
          same : rooms_of (stored_to uc uf up) ≡ rooms_of b.keys
          same = rw (lc, lf, lp)

          abbrev out : Bufs
          out = with_tables b (stored_to uc uf up)

          abbrev done : Turn
          done = goes (with_counts rest n)

          pub store_done : (t : Turn) → t ≡ done → plan.room ≡ true → e.keys ≡ x → Does e s d (storing e k v) r f b out t
          unfolding machine_of
          store_done t w z =
              λ ek sixteen so.
              let pays = pays_on so price price_is o in
              rw w
              (settled out done ek so
              (need_on 48 (room_is e b (stored x ks k v) so.sized.rooms fits_is z)
              (goes_next sixteen (rw (pays.is, left.are)) (tables_sound pays.sound n (stored_to uc uf up) same left.good))))
