-- Each way out of authorising a key once its price is paid. Assumes nothing.
use Rattle.std.specs.Prelude.{◌≡◌, true, false, List, ℕ, ◌+◌, ◌-◌, ◌≤◌, ◌<◌, length, Option, Some}
use Rattle.state.specs.declared.regs.RegFile.{RegFile}
use Rattle.keys.specs.Steps.{authorised}
use Rattle.keys.specs.Lent.{Given, key_env_of, keys_of, rooms_of}
use Rattle.keys.specs.Lent as tables
use Rattle.keys.specs.Sound.{Leaves}
use Rattle.keys.specs.KeyPlans.{key_plan}
use Rattle.keys.specs.declared.counts.Counts.{Counts}
use Rattle.keys.specs.declared.look.TableRows.{TableRows}
use Rattle.keys.specs.declared.authorise.KeyPlan.{KeyPlan}
use Rattle.machine.specs.Machine.{Env}
use Rattle.machine.specs.Lent.{Bufs}
use Rattle.machine.specs.Sound.{Sound}
use Rattle.machine.specs.RunParts.{with_counts, with_keyed}
use Rattle.machine.specs.SoundLaws.{with_tables}
use Rattle.machine.specs.Does.{paid_by, stops, puts, DoesFrom}
use Rattle.machine.specs.declared.run.Run.{Run}
use Rattle.machine.specs.declared.turn.Put.{Put}
use Rattle.machine.specs.declared.turn.Turn.{Turn}
use Rattle.ops_crypto.specs.Answers.{goes_with}
use Rattle.ops_crypto.specs.Taints.{admitting}
use Rattle.ops_crypto.specs.TaintLaws.{settle_capped, settle_full, settle_done, admit_paid}
use Rattle.state.specs.declared.fault.Fault.TheVariants.{EffectsTooLarge, NoRoom}

module _ (e : Env) (s : List ℕ) (d : ℕ) (f : RegFile) (r : Run) (p : Put) (b : Bufs) (l : TableRows) (g : Given) (ek : e.keys ≡ key_env_of l g) (base k : ℕ) (plan : KeyPlan) where
  -- the plan made of the tables with these counts
  abbrev Planned : Counts → Type 0
  Planned c = plan ≡ key_plan (rooms_of b.keys) (key_env_of l g) (keys_of c b.keys) base k

  module _ (y : plan.keyed ≡ true) (x : Option Run) (h : x ≡ paid_by r plan.price) (q : Sound e s d r b → Planned r.counts) (n : Run) (j : x ≡ Some n) (few : n.keyed ≤ 1048576) where
    pub authorise_capped : (a : Bufs) (t : Turn) → t ≡ stops n EffectsTooLarge → 1048576 - n.keyed < plan.bytes → DoesFrom e s d (admitting e base k) r f (puts p f) b a t
    authorise_capped a t w o = admit_paid e s d f r p b l g ek base k plan y x h a t q n j (λ z. settle_capped e s d f n p b plan _ few a t w o)

    module _ (under : plan.bytes ≤ 1048576 - n.keyed) where
      pub authorise_full : (a : Bufs) (t : Turn) → t ≡ stops n NoRoom → plan.room ≡ false → DoesFrom e s d (admitting e base k) r f (puts p f) b a t
      authorise_full a t w o = admit_paid e s d f r p b l g ek base k plan y x h a t q n j (λ z. settle_full e s d f n p b plan _ few under a t w o)

      module _ (c : Counts) (ur uw : List ℕ) (lr : length ur ≡ length b.keys.may_read) (lw : length uw ≡ length b.keys.may_write) where
        abbrev ks : tables.KeyBufs
        ks = tables.key_bufs b.keys.changes b.keys.fetched ur uw b.keys.paid

        pub authorise_done : (t : Turn) → t ≡ goes_with (with_keyed (with_counts n c) (n.keyed + plan.bytes)) p → plan.room ≡ true
            → (Sound e s d n b → Planned n.counts → Leaves (authorised (key_env_of l g) (keys_of n.counts b.keys) base k) c ks)
            → DoesFrom e s d (admitting e base k) r f (puts p f) b (with_tables b ks) t
        authorise_done t w o left =
            admit_paid e s d f r p b l g ek base k plan y x h (with_tables b ks) t q n j
            (λ z sixteen so. settle_done e s d f n p b plan _ few under c ur uw lr lw t w o (left so z) sixteen so)
