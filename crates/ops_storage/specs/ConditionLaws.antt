-- The right and the room that a load and a store both ask. Assumes nothing.
use Rattle.std.specs.Prelude.{◌≡◌, Bool, true, false, List, ℕ, refl}
use Rattle.std.proofs.Common.{sym, ap, ◌∙◌, subst, arith}
use Rattle.state.specs.declared.regs.RegFile.{RegFile}
use Rattle.keys.specs.Known as known
use Rattle.keys.specs.Steps.{fits}
use Rattle.keys.specs.Lent.{rooms_of}
use Rattle.machine.specs.Machine.{Env}
use Rattle.machine.specs.Rules.{Rule, need}
use Rattle.machine.specs.Lent.{Bufs}
use Rattle.machine.specs.Does.{stops, Played}
use Rattle.machine.proofs.TurnLaws.{need_on, need_stops}
use Rattle.machine.specs.declared.run.Run.{Run}
use Rattle.machine.specs.declared.turn.Turn.{Turn}
use Rattle.state.specs.declared.fault.Fault.TheVariants.{UndeclaredSlot}

-- a right that is asked of what a run is given about keys, and what follows it
module _ {e : Env} {s : List ℕ} {d : ℕ} {f : RegFile} {a : Bufs} {u n : ℕ} {x : known.KeyEnv} (ek : e.keys ≡ x) (may : known.KeyEnv → Bool) (then : known.KeyEnv → Rule) {right : Bool} (q : right ≡ may x) where
  with_given : {t : Turn} → Played e s d f u n (need (may x) 12 (then x)) t a → Played e s d f u n (need (may e.keys) 12 (then e.keys)) t a
  with_given {t} h = subst (λ (z : known.KeyEnv). Played e s d f u n (need (may z) 12 (then z)) t a) (sym ek) h

  pub right_denied : {r : Run} → right ≡ false → Played e s d f u n (need (may e.keys) 12 (then e.keys)) (stops r UndeclaredSlot) a
  right_denied o = with_given (need_stops UndeclaredSlot 12 refl (omega arith) (sym q ∙ o))

  pub right_given : {t : Turn} → right ≡ true → Played e s d f u n (then x) t a → Played e s d f u n (need (may e.keys) 12 (then e.keys)) t a
  right_given o h = with_given (need_on 12 (sym q ∙ o) h)

-- room for what is left in every table, as a plan told it
pub room_is : (e : Env) (b : Bufs) (ks : known.Keys) {room told : Bool} → e.rooms ≡ rooms_of b.keys → room ≡ fits (rooms_of b.keys) ks → room ≡ told →
    fits e.rooms ks ≡ told
room_is e b ks rooms p o = ap (λ (z : known.Rooms). fits z ks) rooms ∙ sym p ∙ o
