-- The two ends of a run are the definition's. Assumes nothing.
use Rattle.std.specs.Prelude.{◌≡◌, List, ◌++◌, ℕ, ◌-◌, ◌*◌, length, take, drop, replicate}
use Rattle.std.proofs.Math.Path.{sym, ap}
use Rattle.std.proofs.Common.{◌∙◌, arith, length-append, length-drop, take-append-drop, length-take-le}
use Rattle.words.specs.Bytes.{Bytes}
use Rattle.words.specs.Refusals.{refusal}
use Rattle.words.specs.declared.refusal.Refusal.{Refusal}
use Rattle.tables.specs.Rows.{rows, bytes_of}
use Rattle.tables.specs.LayoutLaws.{rows_length}
use Rattle.tables.specs.TableTheorems.{held_bytes}
use Rattle.keys.specs.Sound.{Held}
use Rattle.keys.specs.Lent as tables
use Rattle.effects.specs.Log.{log_of}
use Rattle.effects.specs.ReadBack.{effects_of}
use Rattle.machine.specs.Machine.{Env, Machine}
use Rattle.machine.specs.Turns.{halted, faulted}
use Rattle.machine.specs.Sound.{Logged, machine_of}
use Rattle.opening.specs.Opening.{Lent}
use Rattle.interp.specs.Call.{called, refused_as, halted_as, wiped, filled, lent_as, kept_of}
use Rattle.interp.specs.Runs.{HaltsIn}
use Rattle.interp.specs.Finished.{halt_answer, Closes}
use Rattle.interp.specs.Wiping.{wiped_but}
use Rattle.interp.specs.declared.answer.Answer.{Answer}
use Rattle.interp.specs.declared.exec.Ended.{Ended}

-- bytes whose rest is zero are what stands in them, filled up
table_filled : (n : ℕ) (t : List ℕ) → Bytes t → Held 40 n t → filled (bytes_of 40 (rows 40 n t)) t ≡ t
table_filled n t all h =
    let s : bytes_of 40 (rows 40 n t) ++ drop (n * 40) t ≡ t = held_bytes 40 n t all h.table.wide h.table.fits in
    let size : length (bytes_of 40 (rows 40 n t)) ≡ n * 40 = omega (arith, ap length s, length-append (bytes_of 40 (rows 40 n t)) (drop (n * 40) t), length-drop (n * 40) t, h.table.fits) in
    ap (λ (k : ℕ). bytes_of 40 (rows 40 n t) ++ replicate (length t - k) 0) size ∙ ap (λ (l : List ℕ). bytes_of 40 (rows 40 n t) ++ l) (sym h.rest) ∙ s

log_length : (n : ℕ) (log : List ℕ) → Logged n log → length (log_of (effects_of (take n log))) ≡ n
log_length n log h = ap length (sym h.is) ∙ length-take-le n log h.within

log_filled : (n : ℕ) (log : List ℕ) → Logged n log → filled (log_of (effects_of (take n log))) log ≡ log
log_filled n log h =
    ap (λ (k : ℕ). log_of (effects_of (take n log)) ++ replicate (length log - k) 0) (log_length n log h)
    ∙ (λ i. sym h.is i ++ sym h.rest i)
    ∙ take-append-drop n log

module _ (x : Ended) (r : Answer) where
  module _ (ch lg ch' lg' : List ℕ) where
    pub closes_fault : (x.end.number ≡ 0 → ⊥) → r ≡ refused_as x.end x.fetches → ch' ≡ wiped ch → lg' ≡ wiped lg → Closes x ch lg r ch' lg'
    closes_fault h q u v b c l e s (halted m) t = absurd (h (ap (λ (w : Refusal). w.number) t.end))
    closes_fault h q u v b c l e s (faulted w f) t =
        λ i. called ((q ∙ (λ j. refused_as (t.0 j) (t.2 j))) i) (wiped_but b ((u ∙ ap wiped (sym c)) i) ((v ∙ ap wiped (sym l)) i))

  -- the machine of a halt, taken from its state
  module _ (b : Lent) (e : Env) (s : List ℕ) (m : Machine) (t : HaltsIn e s x b.run m) where
    answer_is : halt_answer x ≡ halted_as m
    unfolding machine_of
    answer_is =
        let c = x.run.counts in
        let k = b.run.keys in
        rw (← t.is)
        (λ i. record {
          end = refusal 0 0;
          fetches = (t.fetches ∙ ap (λ (y : Machine). y.fetches) (sym t.is)) i;
          used = x.run.meter.used;
          fetched = sym (rows_length 40 c.fetched k.fetched) i;
          changes = sym (rows_length 40 c.changes k.changes) i;
          log = sym (log_length x.run.log b.run.log t.sound.logged) i;
          regs = x.file;
        })

    kept_is : Bytes b.run.keys.changes → wiped_but b b.run.keys.changes b.run.log ≡ kept_of m b
    unfolding machine_of
    kept_is all =
        let k = b.run.keys in
        rw (← t.is)
        (λ i. lent_as (wiped b.run.memory) (wiped b.run.stack) (tables.key_bufs (sym (table_filled x.run.counts.changes k.changes all t.sound.tables.changes) i) (wiped k.fetched) (wiped k.may_read) (wiped k.may_write) (wiped k.paid))
        (sym (log_filled x.run.log b.run.log t.sound.logged) i) (wiped b.starts))

  pub closes_halt : (ch lg : List ℕ) → x.end.number ≡ 0 → Bytes ch → r ≡ halt_answer x → Closes x ch lg r ch lg
  closes_halt ch lg h all q b c l e s (halted m) t =
      let same : wiped_but b ch lg ≡ wiped_but b b.run.keys.changes b.run.log = λ i. wiped_but b (sym c i) (sym l i) in
      λ i. called ((q ∙ answer_is b e s m t) i) ((same ∙ kept_is b e s m t (rw (← c) at all)) i)
  closes_halt ch lg h all q b c l e s (faulted w f) t = absurd (omega (arith, h, ap (λ (y : Refusal). y.number) t.0, t.1))
