-- Each way out of authorising what a Hash made is what the rule comes to. Assumes nothing.
use Rattle.std.specs.Prelude.{◌≡◌, List, ℕ, ◌+◌, ◌-◌, ◌≤◌, ◌<◌, length, take, drop, Option, Some, None}
use Rattle.std.proofs.Math.Path.{refl, sym, ap}
use Rattle.std.proofs.Common.{◌∙◌, subst, arith, le-leb}
use Rattle.std.proofs.Math.Bool.{true, false}
use Rattle.std.proofs.lemmas.Bool.{lt-leb}
use Rattle.words.specs.Bytes.{num}
use Rattle.words.specs.Choice.{pick}
use Rattle.words.specs.ChoiceLaws.{both_true, both_false}
use Rattle.state.specs.Memory.{inside, load_of}
use Rattle.state.specs.declared.regs.RegFile.{RegFile}
use Rattle.keys.specs.Known.{Keys}
use Rattle.keys.specs.Known as known
use Rattle.keys.specs.Steps.{keyed, authorised}
use Rattle.keys.specs.Lent.{Given, key_env_of, keys_of, rooms_of}
use Rattle.keys.specs.Sound.{Leaves}
use Rattle.keys.specs.Lent as tables
use Rattle.keys.specs.KeyPlans.{key_plan}
use Rattle.keys.specs.declared.counts.Counts.{Counts}
use Rattle.keys.specs.declared.look.TableRows.{TableRows}
use Rattle.keys.specs.declared.authorise.KeyPlan.{KeyPlan}
use Rattle.machine.specs.Machine.{Env, Machine, bare}
use Rattle.machine.specs.Rules.{next, pay, play}
use Rattle.machine.specs.CryptoRules.{base_of, authorising, tainting}
use Rattle.machine.specs.Lent.{Bufs, bufs}
use Rattle.machine.specs.Sound.{machine_of, Sound}
use Rattle.machine.specs.Does.{paid_by, stops, puts, Played, DoesFrom}
use Rattle.machine.specs.declared.run.Run.{Run}
use Rattle.machine.specs.declared.turn.Put.{Put}
use Rattle.machine.specs.declared.turn.Turn.{Turn}
use Rattle.ops_crypto.specs.Answers.{goes_with}
use Rattle.ops_crypto.specs.Taints.{settling, admitting}
use Rattle.machine.specs.RunParts.{with_counts, with_keyed}
use Rattle.machine.specs.SoundLaws.{keyed_sound, tables_sound}
use Rattle.machine.proofs.TurnLaws.{need_on, need_stops, paid_is, paid_on, paid_off}
use Rattle.state.specs.declared.fault.Fault.TheVariants.{EffectsTooLarge, NoRoom, OutOfMeter}

-- ---- the base

module _ (mem : List ℕ) (at n : ℕ) where
  pub base_short : n < 8 → None ≡ base_of mem at n
  unfolding base_of
  base_short h = rw (lt-leb 8 n h)

  pub base_loaded : 8 ≤ n → load_of mem at ≡ base_of mem at n
  unfolding base_of
  base_loaded h = rw (le-leb 8 n h)

-- a key made from a base, by its plan
planned_step : (e : Env) (m : Machine) (base k : ℕ) (plan : KeyPlan) → plan ≡ key_plan e.rooms e.keys m.keys base k
    → admitting e base k m ≡ pick plan.keyed (pay plan.price (settling plan (authorised e.keys m.keys base k) m)) (next m)
unfolding authorising key_plan
planned_step e m base k plan q = rw q refl

module _ (e : Env) (s : List ℕ) (d : ℕ) (f : RegFile) (r : Run) (p : Put) (b : Bufs) where
  -- the machine goes on as it is
  goes_with_lem : (t : Turn) → t ≡ goes_with r p → DoesFrom e s d next r f (puts p f) b b t
  unfolding play machine_of
  goes_with_lem t w = λ sixteen so. rw w (record { turned = (refl, refl, record { is = refl; sound = so }) })

  -- ---- as planned and paid

  module _ (plan : KeyPlan) (want : Keys) (few : r.keyed ≤ 1048576) where
    pub settle_capped : (a : Bufs) (t : Turn) → t ≡ stops r EffectsTooLarge → 1048576 - r.keyed < plan.bytes → DoesFrom e s d (settling plan want) r f (puts p f) b a t
    unfolding play machine_of
    settle_capped a t w h = λ sixteen so. rw w (need_stops EffectsTooLarge 11 refl (omega arith) (lt-leb (r.keyed + plan.bytes) 1048576 (omega arith)))

    module _ (h : plan.bytes ≤ 1048576 - r.keyed) where
      pub settle_full : (a : Bufs) (t : Turn) → t ≡ stops r NoRoom → plan.room ≡ false → DoesFrom e s d (settling plan want) r f (puts p f) b a t
      unfolding play machine_of
      settle_full a t w o = λ sixteen so. rw w (need_on 11 (le-leb (r.keyed + plan.bytes) 1048576 (omega arith)) (need_stops NoRoom 48 refl (omega arith) o))

      module _ (n : Counts) (ur uw : List ℕ) (lr : length ur ≡ length b.keys.may_read) (lw : length uw ≡ length b.keys.may_write) where
        abbrev ks : tables.KeyBufs
        ks = tables.key_bufs b.keys.changes b.keys.fetched ur uw b.keys.paid

        same : rooms_of ks ≡ rooms_of b.keys
        same = rw (lr, lw)

        pub settle_done : (t : Turn) → t ≡ goes_with (with_keyed (with_counts r n) (r.keyed + plan.bytes)) p → plan.room ≡ true → Leaves want n ks
            → DoesFrom e s d (settling plan want) r f (puts p f) b (bufs b.memory b.stack ks b.log) t
        unfolding play machine_of
        settle_done t w o left =
            λ sixteen so. rw w
            (need_on 11 (le-leb (r.keyed + plan.bytes) 1048576 (omega arith))
            (need_on 48 o
            (record { turned = (refl, refl, record { is = rw left.are; sound = keyed_sound (tables_sound so n ks same left.good) (r.keyed + plan.bytes) (omega arith) }) })))

  -- ---- a key made from a base

  module _ (l : TableRows) (g : Given) (ek : e.keys ≡ key_env_of l g) (base k : ℕ) (plan : KeyPlan) where
    -- what is authorised, for the run's counts or equal ones
    abbrev want : Counts → Keys
    want c = authorised (key_env_of l g) (keys_of c b.keys) base k

    abbrev Planned : Counts → Type 0
    Planned c = plan ≡ key_plan (rooms_of b.keys) (key_env_of l g) (keys_of c b.keys) base k

    abbrev before : Machine
    before = bare (machine_of s r (puts p f) b)

    by_plan : (a : Bufs) (t : Turn) → Planned r.counts → Sound e s d r b
        → Played e s d f r.meter.used r.fetches (pick plan.keyed (pay plan.price (settling plan (want r.counts) before)) (next before)) t a
        → Played e s d f r.meter.used r.fetches (admitting e base k before) t a
    unfolding machine_of
    by_plan a t q so y =
        let ks : Keys = keys_of r.counts b.keys in
        rw (planned_step e before base k plan (q ∙ sym (λ i. key_plan (so.sized.rooms i) (ek i) ks base k)))
        (subst (λ (x : known.KeyEnv). Played e s d f r.meter.used r.fetches (pick plan.keyed (pay plan.price (settling plan (authorised x ks base k) before)) (next before)) t a) (sym ek) y)

    pub admit_not : (t : Turn) → (Sound e s d r b → Planned r.counts) → plan.keyed ≡ false → t ≡ goes_with r p →
        DoesFrom e s d (admitting e base k) r f (puts p f) b b t
    admit_not t q o w = λ sixteen so. by_plan b t (q so) so (rw o (goes_with_lem t w sixteen so))

    module _ (y : plan.keyed ≡ true) (x : Option Run) (h : x ≡ paid_by r plan.price) (a : Bufs) (t : Turn) (q : Sound e s d r b → Planned r.counts) where
      pub admit_unpaid : x ≡ None → t ≡ stops r OutOfMeter → DoesFrom e s d (admitting e base k) r f (puts p f) b a t
      admit_unpaid j w = λ sixteen so. by_plan a t (q so) so (rw (y, w) (paid_off (puts p f) so h (settling plan (want r.counts)) j))

      pub admit_paid : (n : Run) → x ≡ Some n → (Planned n.counts → DoesFrom e s d (settling plan (want n.counts)) n f (puts p f) b a t) →
          DoesFrom e s d (admitting e base k) r f (puts p f) b a t
      admit_paid n j on =
          let c : n.counts ≡ r.counts = ap (λ (z : Run). z.counts) (paid_is r plan.price x n h j) in
          λ sixteen so. by_plan a t (q so) so
          (rw y (paid_on (puts p f) so h (settling plan (want r.counts)) j
          (subst (λ (z : Counts). DoesFrom e s d (settling plan (want z)) n f (puts p f) b a t) c (on (subst Planned (sym c) (q so))) sixteen)))

  -- ---- a base and an output

  pub taint_none : (out : ℕ) (t : Turn) → t ≡ goes_with r p → DoesFrom e s d (tainting e None out) r f (puts p f) b b t
  unfolding tainting
  taint_none out t w = goes_with_lem t w

  module _ (base out : ℕ) where
    pub taint_outside : (t : Turn) → inside (length b.memory) out 32 ≡ false → t ≡ goes_with r p → DoesFrom e s d (tainting e (Some base) out) r f (puts p f) b b t
    unfolding tainting machine_of
    taint_outside t h w = λ sixteen so. rw (h, both_false (keyed e.keys base)) (goes_with_lem t w sixteen so)

    pub taint_inside : (key : List ℕ) (a : Bufs) (t : Turn) → inside (length b.memory) out 32 ≡ true → key ≡ take 32 (drop out b.memory)
        → DoesFrom e s d (admitting e base (num key)) r f (puts p f) b a t → DoesFrom e s d (tainting e (Some base) out) r f (puts p f) b a t
    unfolding tainting machine_of
    taint_inside key a t h k y = λ sixteen so. rw (h, both_true (keyed e.keys base), ← k) (y sixteen so)
