-- A record appended to the log is one effect more, and the state stays sound; without room it is 48. Assumes nothing.
use Rattle.std.proofs.Math.Path.{◌≡◌, refl, ap}
use Rattle.std.proofs.Common.{sym, ◌∙◌, subst, arith, length-take, length-drop, length-take-le, drop_at, drop-drop, leb-true}
use Rattle.std.specs.Prelude.{Bool, List, [], ◌∷◌, ℕ, zero, suc, ◌+◌, ◌-◌, ◌≤◌, ◌<◌, leb, eqb, length, take, drop, replicate, Option, Some, None}
use Rattle.std.proofs.Math.Bool.{true, false}
use Rattle.std.proofs.lemmas.List.{length-replicate, replicate-append-replicate}
use Rattle.words.specs.Choice.{pick, bit}
use Rattle.effects.specs.Log.{Effect, log_of, FitTrailers}
use Rattle.effects.specs.LogLaws.{length_log}
use Rattle.effects.specs.ReadBack.{effects_of}
use Rattle.effects.specs.LogTheorems.{appended_log, read_back_log}
use Rattle.effects.specs.Counts.{events}
use Rattle.effects.specs.Appended.{grown_of, Appended}
use Rattle.machine.specs.Machine.{Env, Machine, effects_to}
use Rattle.machine.specs.PostRules.{posting}
use Rattle.machine.specs.Lent.{Bufs}
use Rattle.machine.specs.Sound.{machine_of, Logged, Sound}
use Rattle.machine.specs.RunParts.{with_log}
use Rattle.machine.specs.SoundLaws.{with_records, log_sound}
use Rattle.machine.specs.Does.{goes, stops}
use Rattle.machine.proofs.TurnLaws.{need_on, need_stops, goes_next}
use Rattle.machine.specs.declared.run.Run.{Run}
use Rattle.ops_posts.specs.EffectRules.{Comes}
use Rattle.state.specs.declared.fault.Fault.TheVariants.{NoRoom}

zeroes_left : (k n : ℕ) → drop k (replicate {A = ℕ} (k + n) 0) ≡ replicate n 0
zeroes_left k n = ap (drop k) (sym (replicate-append-replicate k n 0)) ∙ drop_at (replicate k 0) (replicate n 0) k (length-replicate k 0)

-- a kind of 0 or 1 is the number of events that an effect of that kind is
kind_counts : (k : ℕ) → k ≤ 1 → k ≡ bit (eqb k 1)
kind_counts zero h = refl
kind_counts (suc zero) h = refl
kind_counts (suc (suc k)) h = absurd (omega arith)

module _ (x : Effect) (run : Run) (t u : List ℕ) (g : Option ℕ) (a : Appended x run.log t u g) where
  abbrev size : ℕ
  size = run.log + length x.bytes + 13

  full : g ≡ None → leb size (length t) ≡ false
  unfolding grown_of
  full k = go (leb size (length t)) (sym k ∙ a.answer)
    where
      go : (o : Bool) → None ≡ pick o (Some size) None → o ≡ false
      go true z = absurd (let w : ◌≡◌ {A = ℕ} 0 1 = cc in omega arith)
      go false z = refl

  fits : (m : ℕ) → g ≡ Some m → (leb size (length t) ≡ true) × (m ≡ size)
  unfolding grown_of
  fits m k = go (leb size (length t)) (sym k ∙ a.answer)
    where
      go : (o : Bool) → Some m ≡ pick o (Some size) None → (o ≡ true) × (m ≡ size)
      go true z = (refl, cc)
      go false z = absurd (let w : ◌≡◌ {A = ℕ} 0 1 = cc in omega arith)

  module _ (e : Env) (s : List ℕ) (d : ℕ) (b : Bufs) (so : Sound e s d run (with_records b t)) where
    abbrev es : List Effect
    es = effects_of (take run.log t)

    size_is : length (log_of (x ∷ es)) ≡ size
    size_is =
        let l : length (log_of es) ≡ run.log = sym (ap length so.logged.is) ∙ length-take-le run.log t so.logged.within in
        omega (arith, length_log x es)

    -- the room asked for is that of the record in the lent log
    room_is : leb (length (log_of (x ∷ es))) e.log_room ≡ leb size (length t)
    room_is = rw (size_is, so.sized.log)

    module _ (m : ℕ) (k : g ≡ Some m) (few : run.events < run.posted) (kind : x.kind ≤ 1) (sm : FitTrailers (x ∷ [])) where
      ended : Appended x run.log t u (Some m)
      ended = subst (λ (o : Option ℕ). Appended x run.log t u o) k a

      small : FitTrailers (x ∷ es)
      small = (sm.0, sm.1, so.logged.small)

      bytes_are : take m u ≡ log_of (x ∷ es)
      bytes_are = appended_log x es run.log m t u ended so.logged.is

      effects_are : effects_of (take m u) ≡ x ∷ es
      effects_are = ap effects_of bytes_are ∙ read_back_log (x ∷ es) small

      within : m ≤ length t
      within = omega (arith, (fits m k).1, leb-true size (length t) (fits m k).0)

      as_long : length u ≡ length t
      as_long = omega (arith, (fits m k).1, within, size_is, ap length bytes_are, length-take m u, ap length ended.bytes.1, length-drop m u, length-drop m t)

      logged_on : Logged m u
      logged_on =
          let j : ℕ = length x.bytes + 13 in
          let o : m ≡ run.log + j = omega (arith, (fits m k).1) in
          let left : ℕ = length u - m in
          let z : length t - run.log ≡ j + left = omega (arith, as_long, within) in
          let rest : drop run.log t ≡ replicate (j + left) 0 = so.logged.rest ∙ ap (λ (n : ℕ). replicate n 0) z in
          record {
            within = omega (arith, as_long, within);
            small = rw effects_are small;
            is = bytes_are ∙ ap log_of (sym effects_are);
            rest = ended.bytes.1 ∙ ap (λ (n : ℕ). drop n t) o ∙ sym (drop-drop j run.log t) ∙ ap (drop j) rest ∙ zeroes_left j left;
          }

      sound_on : Sound e s d (with_log run m (run.events + x.kind)) (with_records b u)
      unfolding events
      sound_on =
          let n : x.kind ≡ bit (eqb x.kind 1) = kind_counts x.kind kind in
          let q : run.events + x.kind ≡ bit (eqb x.kind 1) + events es = omega (arith, n, so.counted.events) in
          log_sound so m (run.events + x.kind) u as_long logged_on (q ∙ ap events (sym effects_are)) (omega (arith, few, kind))

  pub no_room_stops : {o : Run} → g ≡ None → Comes (λ e. posting e x) run t u (stops o NoRoom)
  unfolding machine_of
  no_room_stops k = record {
    turned = λ e s d f b l so. need_stops NoRoom 48 refl (omega arith) (room_is e s d b so ∙ full k);
  }

  pub appended_goes : (m : ℕ) → g ≡ Some m → run.events < run.posted → x.kind ≤ 1 → FitTrailers (x ∷ []) →
      Comes (λ e. posting e x) run t u (goes (with_log run m (run.events + x.kind)))
  unfolding machine_of
  appended_goes m k few kind sm = record {
    turned = λ e s d f b l so.
        let o : Machine = machine_of s run f (with_records b t) in
        need_on 48 (room_is e s d b so ∙ (fits m k).0)
        (goes_next l (ap (effects_to o) (effects_are e s d b so m k few kind sm)) (sound_on e s d b so m k few kind sm));
  }
