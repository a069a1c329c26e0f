-- Each way out of asking for a reply is what the rule comes to, and what follows a reply. Assumes nothing.
use Rattle.std.specs.Prelude.{◌≡◌, refl, Bool, true, false, leb, drop, Option, Some, None, is_some, ℕ}
use Rattle.std.proofs.Common.{sym, ap, ◌∙◌, subst, take_all, leb-true, leb-false}
use mathlib.Core.List.{List, [], ◌∷◌}
use Prim.Native.Nat.{ℕ, zero, suc, ◌+◌, ◌-◌, ◌*◌, ◌/◌, ◌≤◌, ◌<◌, min}
use native.Mathlib.Omega.{arith}
use Rattle.std.proofs.Math.Nat.{min-eq_left, min-eq_right}
use Rattle.std.proofs.Math.ListN.{length, take, length-drop}
use Rattle.std.proofs.Math.Seq.{drop-drop, length-take-le}
use Rattle.replies.specs.Reply.{reply_of}
use Rattle.replies.specs.declared.reply.Reply.{Reply}
use Rattle.state.specs.Memory.{written_at}
use Rattle.state.specs.declared.regs.RegFile.{RegFile}
use Rattle.keys.specs.Lent as tables
use Rattle.words.specs.declared.refusal.Refusal.{Refusal}
use Rattle.state.specs.declared.fault.Fault.{Fault}
use Rattle.machine.specs.Machine.{Env, Machine, replies_to, bare}
use Rattle.machine.specs.Rules.{Rule, next, pass, play}
use Rattle.machine.specs.CryptoRules.{replied, asking_of, asking}
use Rattle.machine.specs.Lent.{Bufs, bufs, replies_in, replies_left}
use Rattle.machine.specs.Sound.{machine_of, Sound}
use Rattle.machine.specs.Does.{sets, stops, puts, Played, Does}
use Rattle.machine.specs.RunParts.{with_replies}
use Rattle.machine.specs.SoundLaws.{memory_sound, replies_sound}
use Rattle.machine.proofs.TurnLaws.{pass_on, pass_stops, sets_next}
use Rattle.machine.specs.declared.run.Run.{Run}
use Rattle.machine.specs.declared.turn.Turn.{Turn}
use Rattle.state.specs.declared.fault.Fault.TheVariants.{NoReply, Told}

-- a length above all of the bytes takes all of them
taken : (n : ℕ) (bytes : List ℕ) → length bytes ≡ 32 → take (min n 32) bytes ≡ take n bytes
taken n bytes l = go (leb n 32) refl
  where
    go : (t : Bool) → leb n 32 ≡ t → take (min n 32) bytes ≡ take n bytes
    go true q = ap (λ (k : ℕ). take k bytes) (min-eq_left (leb-true n 32 q))
    go false q =
        let h : 32 < n = leb-false n 32 q in
        let m : min n 32 ≡ 32 = min-eq_right (omega arith) in
        ap (λ (k : ℕ). take k bytes) m ∙ take_all 32 bytes (omega arith) ∙ sym (take_all n bytes (omega arith))

-- ---- the replies that are left

module _ (s : List ℕ) (k : ℕ) where
  none_left : length s < k * 48 + 48 → replies_left s k ≡ []
  unfolding replies_left replies_in
  none_left h = let n : length s / 48 - k ≡ 0 = omega arith in rw n

  some_left : k * 48 + 48 ≤ length s → replies_left s k ≡ reply_of (take 48 (drop (k * 48) s)) ∷ replies_left s (k + 1)
  unfolding replies_left replies_in
  some_left h =
      let n : length s / 48 - k ≡ suc (length s / 48 - (k + 1)) = omega arith in
      let p : (k + 1) * 48 ≡ k * 48 + 48 = omega arith in
      rw (n, p, drop-drop 48 (k * 48) s)

  -- a row's bytes, and the part of them that a length takes
  module _ (x : Reply) (h : k * 48 + 48 ≤ length s) (q : x ≡ reply_of (take 48 (drop (k * 48) s))) (n : ℕ) (w : n ≡ min x.length 32) where
    thirty_two : length x.bytes ≡ 32
    unfolding reply_of
    thirty_two =
        let row : List ℕ = take 48 (drop (k * 48) s) in
        let l : length row ≡ 48 = length-take-le 48 (drop (k * 48) s) (omega (arith, length-drop (k * 48) s)) in
        rw q (length-take-le 32 (drop 15 row) (omega (arith, length-drop 15 row)))

    pub shown_within : n ≤ length x.bytes
    shown_within = omega (arith, thirty_two, w)

    pub shown_is : take n x.bytes ≡ take x.length x.bytes
    shown_is = ap (λ (j : ℕ). take j x.bytes) w ∙ taken x.length x.bytes thirty_two

module _ (e : Env) (s : List ℕ) (d : ℕ) (f : RegFile) (r : Run) (mem st : List ℕ) (ks : tables.KeyBufs) (log : List ℕ) where
  -- ---- the three ways out

  module _ (a : Bufs) (t : Turn) where
    pub ask_none : t ≡ stops r NoReply → length s < r.replies * 48 + 48 → Does e s d (λ m. asking m next) r f (bufs mem st ks log) a t
    unfolding machine_of
    ask_none w h = λ sixteen so. rw (none_left s r.replies h, w) (pass_stops NoReply 47 refl (λ z. omega arith))

    module _ (x : Reply) (q : x ≡ reply_of (take 48 (drop (r.replies * 48) s))) (h : r.replies * 48 + 48 ≤ length s) where
      pub ask_fault : t ≡ stops r (Told x.outcome) → (x.outcome ≡ 0 → ⊥) → Does e s d (λ m. asking m next) r f (bufs mem st ks log) a t
      unfolding machine_of
      ask_fault w n = λ sixteen so. rw (some_left s r.replies h, ← q, w) (pass_stops (Told x.outcome) x.outcome refl n)

  pub ask_told : (t : Turn) (mem' : List ℕ) (x : Reply) → x ≡ reply_of (take 48 (drop (r.replies * 48) s)) → r.replies * 48 + 48 ≤ length s → x.outcome ≡ 0
      → mem' ≡ written_at mem x.offset (take x.length x.bytes) → length mem' ≡ length mem → t ≡ sets (with_replies r (r.replies + 1)) x.register x.value
      → Does e s d (λ m. asking m next) r f (bufs mem st ks log) (bufs mem' st ks log) t
  unfolding machine_of
  ask_told t mem' x q h z p lm w =
      λ sixteen so. rw (some_left s r.replies h, ← q, w)
      (pass_on z (sets_next x.register x.value sixteen (rw p) (replies_sound (memory_sound so mem' lm) (r.replies + 1) (omega arith))))

-- ---- what follows a reply

module _ (e : Env) (s : List ℕ) (d : ℕ) (f : RegFile) (m : Machine) (u n : ℕ) (t : Turn) (b : Bufs) (h : Played e s d f u n (asking (bare m) next) t b) (k : Machine → Rule) where
  -- the machine that a reply leaves
  abbrev told : Reply → List Reply → Machine
  told x rs = replied x (replies_to (bare m) rs)

  pub asked_stops : (t.fault ≡ 0 → ⊥) → Played e s d f u n (asking (bare m) k) t b
  unfolding play
  asked_stops z = go m.replies h
    where
      row : (x : Reply) (rs : List Reply) (o : ℕ) → Played e s d f u n (pass o (next (told x rs))) t b → Played e s d f u n (pass o (k (told x rs))) t b
      row x rs zero y = absurd (z y.turned.0)
      row x rs (suc o) y = record { turned = y.turned }

      go : (l : List Reply) → Played e s d f u n (asking_of l (bare m) next) t b → Played e s d f u n (asking_of l (bare m) k) t b
      go [] y = record { turned = y.turned }
      go (x ∷ rs) y = row x rs x.outcome y

  pub asked_on : (v : Turn) (a : Bufs) → t.fault ≡ 0 →
      (Sound e s d t.run b → Played e s d f t.run.meter.used t.run.fetches (k (bare (machine_of s t.run (puts t.put f) b))) v a) →
      Played e s d f u n (asking (bare m) k) v a
  unfolding play machine_of
  asked_on v a z on = go m.replies h
    where
      row : (x : Reply) (rs : List Reply) (o : ℕ) → Played e s d f u n (pass o (next (told x rs))) t b → Played e s d f u n (pass o (k (told x rs))) v a
      row x rs zero y =
          let left = y.turned.2 in
          record { turned = (subst (λ (q : Machine). Played e s d f q.used q.fetches (k (bare q)) v a) left.is (on left.sound)).turned }
      row x rs (suc o) y = absurd (omega (arith, y.turned.1, z))

      go : (l : List Reply) → Played e s d f u n (asking_of l (bare m) next) t b → Played e s d f u n (asking_of l (bare m) k) v a
      go [] y = absurd (omega (arith, y.turned.1, z))
      go (x ∷ rs) y = row x rs x.outcome y
