-- From the record back to a Send or an Emit: each condition and price that the code asks is the rule's. Assumes nothing.
use Rattle.std.specs.Prelude.{◌≡◌, List, ℕ, ◌+◌, ◌-◌, ◌*◌, ◌≤◌, ◌<◌, length, take, drop, Option, Some, None, refl}
use Rattle.std.proofs.Common.{sym, ap, ◌∙◌, arith, length-take, length-drop}
use Rattle.std.proofs.Math.Dec.{leb}
use borrow.Author.Tests.{le-leb, lt-leb}
use Rattle.state.specs.Regs.{file, reg}
use Rattle.state.specs.RegionLaws.{missed, found, part_is}
use Rattle.state.specs.Memory.{region_of}
use Rattle.effects.specs.Log.{Effect, FitTrailers, log_of}
use Rattle.effects.specs.Targets.{target_of}
use Rattle.effects.specs.Counts.{events}
use Rattle.machine.specs.Machine.{Env, Machine, posted_to, bare}
use Rattle.machine.specs.Rules.{Rule, pay}
use Rattle.machine.proofs.RuleLaws.{Same, pass_same, pay_same, pay_twice}
use Rattle.machine.specs.PostRules.{target_price, event_price, total_with, posting, sending, emitting, post_of}
use Rattle.machine.specs.Lent.{bufs}
use Rattle.machine.specs.Sound.{machine_of}
use Rattle.machine.specs.RunParts.{with_posted}
use Rattle.machine.specs.SoundLaws.{posted_sound}
use Rattle.machine.specs.Does.{paid_by, stops}
use Rattle.machine.proofs.TurnLaws.{need_on, need_stops, paid_on, paid_off, same_played}
use Rattle.machine.specs.declared.action.Post.{Post}
use Rattle.machine.specs.declared.action.Post.TheVariants.{Send, Emit}
use Rattle.machine.specs.declared.run.Run.{Run}
use Rattle.machine.specs.declared.turn.Turn.{Turn}
use Rattle.ops_posts.specs.EffectRules.{effect, later_price, totalling, charging, placing, Comes, Posts}
use Rattle.state.specs.declared.fault.Fault.TheVariants.{BadMemory, EffectsTooLarge, Malformed, OutOfMeter}

-- ---- a price

module _ {rule : Env → Machine → Rule} {run : Run} {p : ℕ} {x : Option Run} (h : x ≡ paid_by run p) {t : List ℕ} where
  pub pay_comes : {q : Run} {u : List ℕ} {r : Turn} → x ≡ Some q → Comes rule q t u r → Comes (λ e m. pay p (rule e m)) run t u r
  pay_comes k y = record { turned = λ e s d f b l so. paid_on f so h (rule e) k (y.turned e s d f b l) }

  pub pay_ends : {o : Run} → x ≡ None → Comes (λ e m. pay p (rule e m)) run t t (stops o OutOfMeter)
  pay_ends k = record { turned = λ e s d f b l so. paid_off f so h (rule e) k }

-- ---- the total

module _ (x : Effect) (run : Run) (t : List ℕ) where
  abbrev sum : ℕ
  sum = run.posted + length x.bytes + 32

  pub total_over : {o : Run} → 1048576 < sum → Comes (λ e. totalling e x) run t t (stops o EffectsTooLarge)
  unfolding machine_of
  total_over h = record { turned = λ e s d f b l so. need_stops EffectsTooLarge 11 refl (omega arith) (lt-leb sum 1048576 h) }

  pub total_comes : (p : ℕ) (u : List ℕ) (r : Turn) → sum ≤ 1048576 →
      ((es : List Effect) → FitTrailers es → take run.log t ≡ log_of es → run.events ≡ events es → p ≡ later_price x es)
      → Comes (λ e m. pay p (posting e x m)) (with_posted run sum) t u r → Comes (λ e. totalling e x) run t u r
  unfolding machine_of
  total_comes p u r h price c = record {
    turned = λ e s d f b l so.
        let q = price _ so.logged.small so.logged.is so.counted.events in
        need_on 11 (le-leb sum 1048576 h)
        (rw q at (c.turned e s d f b l (posted_sound so sum (omega arith) h)));
  }

-- ---- the region

pub part_short : (mem : List ℕ) (start end : ℕ) → length mem ≡ 65536 → length (take (end - start) (drop start mem)) ≤ 65536
part_short mem start end h = omega (arith, length-take (end - start) (drop start mem), length-drop start mem)

module _ (mem : List ℕ) (at n : ℕ) (o : Option (ℕ × ℕ)) (h : o ≡ region_of (length mem) at n) where
  pub place_comes : (kind word start end : ℕ) → o ≡ Some (start, end) → (run : Run) (t u : List ℕ) (r : Turn)
      → Comes (λ e. charging e (effect kind word (take (end - start) (drop start mem)))) run t u r → Comes (λ e. placing e kind word mem at n) run t u r
  place_comes kind word start end k run t u r c = record {
    turned = λ e s d f b l so. need_on 6 (found (length mem) at n o h start end k).within (rw (part_is mem at n o h start end k) at (c.turned e s d f b l so));
  }

  pub place_stops : (kind word : ℕ) → o ≡ None → (run : Run) (t : List ℕ) → Comes (λ e. placing e kind word mem at n) run t t (stops run BadMemory)
  place_stops kind word k run t = record { turned = λ e s d f b l so. need_stops BadMemory 6 refl (omega arith) (missed (length mem) at n o h k) }

-- ---- the two instructions

puts_event : (e : Env) (w : ℕ) (bs : List ℕ) (m : Machine) → Same (charging e (effect 1 w bs) m) (emitting e (effect 1 w bs) m)
unfolding emitting later_price
puts_event e w bs m =
    let x : Effect = effect 1 w bs in
    let n : ℕ = length bs in
    let target : ℕ = target_price (target_of x) m.effects in
    let fifth : ℕ = event_price m.effects in
    let then : Rule = posting e x (posted_to m (total_with x m)) in
    pay_same (2 * n) _ _ (pass_same _ _ _ (λ l u k.
    sym (pay_twice (98 * n) target (pay fifth then) l u k ∙ pay_twice (98 * n + target) fifth then l u k)))

module _ (regs mem : List ℕ) (run : Run) (t : List ℕ) where
  pub emit_refused : (a b c v : ℕ) → v ≡ reg (file regs) c → (o : Post) → o ≡ Emit a b c → 4294967295 < v → Posts o run regs mem t t (stops run Malformed)
  unfolding machine_of post_of
  emit_refused a b c v q o k h = rw k (λ e s stack d ks l so.
      need_stops Malformed 14 refl (omega arith) (ap (λ (y : ℕ). leb y 4294967295) (sym q) ∙ lt-leb v 4294967295 h))

  module _ (u : List ℕ) (r : Turn) (a b c at n v : ℕ) (qa : at ≡ reg (file regs) a) (qb : n ≡ reg (file regs) b) (qc : v ≡ reg (file regs) c) where
    pub sends : (o : Post) → o ≡ Send a b c → Comes (λ e. placing e 0 v mem at n) run t u r → Posts o run regs mem t u r
    unfolding machine_of post_of sending later_price
    sends o k h = rw k (λ e s stack d ks l so. rw (qa, qb, qc) at (h.turned e s d (file regs) (bufs mem stack ks t) l so))

    pub emits : (o : Post) → o ≡ Emit a b c → v ≤ 4294967295 → Comes (λ e. placing e 1 (v * 4294967296) mem at n) run t u r → Posts o run regs mem t u r
    unfolding machine_of post_of
    emits o k h p = rw k (λ e s stack d ks l so.
        let m : Machine = bare (machine_of s run (file regs) (bufs mem stack ks t)) in
        let same = pass_same _ _ _ (puts_event e (v * 4294967296) (take n (drop at mem)) m) in
        need_on 14 (ap (λ (y : ℕ). leb y 4294967295) (sym qc) ∙ le-leb v 4294967295 h)
        (rw (qa, qb, qc) at (same_played same (p.turned e s d (file regs) (bufs mem stack ks t) l so))))
