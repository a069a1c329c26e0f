-- How a turn that the code answers is what a rule comes to: condition by condition, price by price. Assumes nothing.
use Rattle.std.specs.Prelude.{◌≡◌, Bool, true, false, List, leb, length, Option, Some, None}
use Rattle.std.proofs.Math.Path.{refl}
use Rattle.std.proofs.Common.{sym, ap, ◌∙◌, subst, arith, length-set, leb-true}
use Prim.Native.Nat.{ℕ, zero, suc, ◌+◌, ◌<◌}
use Rattle.std.proofs.Math.Seq.{set_out}
use Rattle.words.specs.Choice.{pick}
use Rattle.words.specs.Refusals.{refusal}
use Rattle.words.specs.declared.refusal.Refusal.{Refusal}
use Rattle.state.specs.Faults.{fault_refusal}
use Rattle.state.specs.declared.fault.Fault.{Fault}
use Rattle.state.specs.Regs.{set_reg}
use Rattle.state.specs.declared.regs.RegFile.{RegFile}
use Rattle.machine.specs.Machine.{Env, Machine, metered, bare}
use Rattle.machine.specs.Steps.{Step}
use Rattle.machine.proofs.RuleLaws.{Same}
use Rattle.machine.specs.Rules.{Rule, next, pass, need, pay, play}
use Rattle.machine.specs.Lent.{Bufs}
use Rattle.machine.specs.Sound.{machine_of, Sound}
use Rattle.machine.specs.RunParts.{with_used}
use Rattle.machine.specs.SoundLaws.{used_sound}
use Rattle.machine.specs.Does.{paid_by, sets, goes, stops, puts, Turned, Played}
use Rattle.machine.specs.declared.run.Run.{Run}
use Rattle.machine.specs.declared.turn.Turn.{Turn}
use Rattle.state.specs.declared.fault.Fault.TheVariants.{OutOfMeter}

-- ---- registers

set_none : (f : RegFile) (v : ℕ) → length f.r ≡ 16 → set_reg f 255 v ≡ f
set_none f v l = ap (λ (x : List ℕ). record { r = x }) (set_out f.r 255 v (omega arith))

-- a word put, and nothing put
pub one_put : (r : Run) (f : RegFile) (i v : ℕ) → length f.r ≡ 16 → puts (sets r i v).put f ≡ set_reg f i v
one_put r f i v l = set_none (set_reg f i v) 0 (length-set f.r i v ∙ l)

pub none_put : (r : Run) (f : RegFile) → length f.r ≡ 16 → puts (goes r).put f ≡ f
none_put r f l = one_put r f 255 0 l ∙ set_none f 0 l

-- ---- conditions and prices

module _ {e : Env} {s : List ℕ} {d : ℕ} {f : RegFile} {u n : ℕ} {r : Rule} {b : Bufs} where
  pub pass_on : {t : Turn} {k : ℕ} → k ≡ 0 → Played e s d f u n r t b → Played e s d f u n (pass k r) t b
  unfolding play
  pass_on h x = record { turned = rw h x.turned }

  pub need_on : {t : Turn} {ok : Bool} (k : ℕ) → ok ≡ true → Played e s d f u n r t b → Played e s d f u n (need ok k r) t b
  unfolding play
  need_on k h x = record { turned = rw h x.turned }

  pub pay_on : {t : Turn} {p : ℕ} → leb (u + p) e.limit ≡ true → Played e s d f (u + p) n r t b → Played e s d f u n (pay p r) t b
  unfolding play
  pay_on h x = record { turned = rw h x.turned }

  -- a rule that plays the same
  pub same_played : {t : Turn} {q : Rule} → Same r q → Played e s d f u n r t b → Played e s d f u n q t b
  same_played {t} h x = record { turned = subst (λ (z : Step). Turned e s d f z t b) (h e.limit u n) x.turned }

  module _ {o : Run} where
    pub pass_stops : (g : Fault) (k : ℕ) → fault_refusal g ≡ refusal k 0 → (k ≡ 0 → ⊥) → Played e s d f u n (pass k r) (stops o g) b
    unfolding play
    pass_stops g zero q h = absurd (h refl)
    pass_stops g (suc k) q h =
        let z : (fault_refusal g).number ≡ suc k = ap (λ (x : Refusal). x.number) q in
        record { turned = (ap (λ (i : ℕ). refusal i 0) (sym z), omega (arith, z)) }

    pub need_stops : {ok : Bool} (g : Fault) (k : ℕ) → fault_refusal g ≡ refusal k 0 → 0 < k → ok ≡ false → Played e s d f u n (need ok k r) (stops o g) b
    need_stops g k q l h = rw h (pass_stops g k q (λ z. omega arith))

    pub pay_stops : {p : ℕ} → leb (u + p) e.limit ≡ false → Played e s d f u n (pay p r) (stops o OutOfMeter) b
    unfolding play
    pay_stops h = record { turned = rw h (refl, omega arith) }

-- the run goes on, with a word put or with nothing put
module _ {e : Env} {s : List ℕ} {d : ℕ} {f : RegFile} {r : Run} {b : Bufs} {m : Machine} {u n : ℕ} where
  pub goes_next : length f.r ≡ 16 → machine_of s r f b ≡ metered m u n → Sound e s d r b → Played e s d f u n (next m) (goes r) b
  unfolding play
  goes_next l q so = record { turned = (refl, refl, record { is = rw (none_put r f l) q; sound = so }) }

  pub sets_next : (i v : ℕ) → length f.r ≡ 16 → machine_of s r (set_reg f i v) b ≡ metered m u n → Sound e s d r b → Played e s d f u n (next m) (sets r i v) b
  unfolding play
  sets_next i v l q so = record { turned = (refl, refl, record { is = rw (one_put r f i v l) q; sound = so }) }

-- ---- what a payment tells

module _ {e : Env} {s : List ℕ} {d : ℕ} {r : Run} {b : Bufs} (so : Sound e s d r b) (p : ℕ) where
  -- the run after a payment, sound, and the test that it passed
  pub record Pays (q : Run) : Type 0 where
    pub passed : leb (r.meter.used + p) e.limit ≡ true
    pub is : q ≡ with_used r (r.meter.used + p)
    pub sound : Sound e s d q b

  abbrev paying : Bool → Option Run
  paying t = pick t (Some (with_used r (r.meter.used + p))) None

  limit_is : paid_by r p ≡ paying (leb (r.meter.used + p) e.limit)
  limit_is = rw so.metered.limit

  pub pays_on : {x : Option Run} {q : Run} → x ≡ paid_by r p → x ≡ Some q → Pays q
  pays_on {x} {q} h k = go (leb (r.meter.used + p) e.limit) refl (sym k ∙ h ∙ limit_is)
    where
      go : (t : Bool) → leb (r.meter.used + p) e.limit ≡ t → Some q ≡ paying t → Pays q
      go true y z =
          let i : q ≡ with_used r (r.meter.used + p) = cc in
          record { passed = y; is = i; sound = rw i (used_sound so (r.meter.used + p) (omega arith) (leb-true (r.meter.used + p) e.limit y)) }
      go false y z = absurd (let w : ◌≡◌ {A = ℕ} 0 1 = cc in omega arith)

  pub pays_not : {x : Option Run} → x ≡ paid_by r p → x ≡ None → leb (r.meter.used + p) e.limit ≡ false
  pays_not h k = go (leb (r.meter.used + p) e.limit) refl (sym k ∙ h ∙ limit_is)
    where
      go : (t : Bool) → leb (r.meter.used + p) e.limit ≡ t → None ≡ paying t → leb (r.meter.used + p) e.limit ≡ false
      go true y z = absurd (let w : ◌≡◌ {A = ℕ} 0 1 = cc in omega arith)
      go false y z = y

-- a price, then the rest of the rule; g: the machine's registers
module _ {e : Env} {s : List ℕ} {d : ℕ} {f : RegFile} (g : RegFile) {r : Run} {b : Bufs} (so : Sound e s d r b) {p : ℕ} {x : Option Run} (h : x ≡ paid_by r p) (rest : Machine → Rule) where
  pub paid_on : {q : Run} {t : Turn} {a : Bufs} → x ≡ Some q →
      (Sound e s d q b → Played e s d f q.meter.used q.fetches (rest (bare (machine_of s q g b))) t a)
      → Played e s d f r.meter.used r.fetches (pay p (rest (bare (machine_of s r g b)))) t a
  unfolding machine_of
  paid_on j on = let w = pays_on so p h j in pay_on w.passed (rw w.is at (on w.sound))

  pub paid_off : {o : Run} {a : Bufs} → x ≡ None →
      Played e s d f r.meter.used r.fetches (pay p (rest (bare (machine_of s r g b)))) (stops o OutOfMeter) a
  paid_off j = pay_stops (pays_not so p h j)

-- the run that a payment leaves differs in its meter alone
pub paid_is : (r : Run) (p : ℕ) (x : Option Run) (q : Run) → x ≡ paid_by r p → x ≡ Some q → q ≡ with_used r (r.meter.used + p)
paid_is r p x q h k = go (leb (r.meter.used + p) r.meter.limit) (sym k ∙ h)
  where
    go : (t : Bool) → Some q ≡ pick t (Some (with_used r (r.meter.used + p))) None → q ≡ with_used r (r.meter.used + p)
    go true z = cc
    go false z = absurd (let w : ◌≡◌ {A = ℕ} 0 1 = cc in omega arith)
