-- A key's region decides an access: outside it is 6, and inside its 32 bytes are the key. Assumes nothing.
use Rattle.std.specs.Prelude.{◌≡◌, Bool, true, false, List, ℕ, length, take, drop}
use Rattle.std.proofs.Math.Path.{refl}
use Rattle.std.proofs.Common.{sym, ap, ◌∙◌, subst, arith}
use Rattle.words.specs.Bytes.{num}
use Rattle.state.specs.Regs.{reg}
use Rattle.state.specs.Memory.{inside}
use Rattle.state.specs.declared.regs.RegFile.{RegFile}
use Rattle.machine.specs.Machine.{Env, Machine, bare}
use Rattle.machine.specs.Rules.{Rule, need}
use Rattle.machine.specs.StorageRules.{loading, storing, access_of}
use Rattle.machine.specs.Lent.{Bufs}
use Rattle.machine.specs.Sound.{machine_of}
use Rattle.machine.specs.Does.{stops, Played, Does}
use Rattle.machine.proofs.TurnLaws.{need_on, need_stops}
use Rattle.machine.specs.declared.action.Access.{Access}
use Rattle.machine.specs.declared.action.Access.TheVariants.{SLoad, SStore}
use Rattle.machine.specs.declared.run.Run.{Run}
use Rattle.machine.specs.declared.turn.Turn.{Turn}
use Rattle.ops_storage.specs.Answered.{key_register}
use Rattle.state.specs.declared.fault.Fault.TheVariants.{BadMemory}

-- an access once its key is known
abbrev keyed : Env → Access → RegFile → ℕ → Machine → Rule
keyed e (SLoad d a) f k = loading e d k
keyed e (SStore a b) f k = storing e k (reg f b)

module _ (e : Env) (s : List ℕ) (d : ℕ) (f : RegFile) (r : Run) (b : Bufs) (o : Access) where
  abbrev place : ℕ
  place = reg f (key_register o)

  abbrev within : Bool
  within = inside (length b.memory) place 32

  abbrev on : Rule
  on = keyed e o f (num (take 32 (drop place b.memory))) (bare (machine_of s r f b))

  access_is : access_of e o (bare (machine_of s r f b)) ≡ need within 6 on
  unfolding access_of machine_of
  access_is = go o
    where
      go : (z : Access) → access_of e z (bare (machine_of s r f b))
          ≡ need (inside (length b.memory) (reg f (key_register z)) 32) 6 (keyed e z f (num (take 32 (drop (reg f (key_register z)) b.memory))) (bare (machine_of s r f b)))
      go (SLoad d a) = refl
      go (SStore a b) = refl

  module _ (a offset : ℕ) (qa : a ≡ key_register o) (q : offset ≡ reg f a) (u : Bufs) (t : Turn) where
    placed : offset ≡ place
    placed = q ∙ ap (reg f) qa

    pub key_outside : inside (length b.memory) offset 32 ≡ false → t ≡ stops r BadMemory → Does e s d (access_of e o) r f b u t
    key_outside h i = λ sixteen so. rw (access_is, i) (need_stops BadMemory 6 refl (omega arith) (rw placed at h))

    module _ (key : List ℕ) (h : inside (length b.memory) offset 32 ≡ true) (k : key ≡ take 32 (drop offset b.memory)) where
      key_inside : Does e s d (keyed e o f (num key)) r f b u t → Does e s d (access_of e o) r f b u t
      key_inside i =
          λ sixteen so. rw access_is
          (need_on 6 (rw placed at h)
          (subst (λ (y : ℕ). Played e s d f r.meter.used r.fetches (keyed e o f y (bare (machine_of s r f b))) t u) (ap num (rw placed at k)) (i sixteen so)))

      pub load_inside : (to c : ℕ) → o ≡ SLoad to c → Does e s d (loading e to (num key)) r f b u t → Does e s d (access_of e o) r f b u t
      load_inside to c p i = key_inside (subst (λ (z : Access). Does e s d (keyed e z f (num key)) r f b u t) (sym p) i)

      pub store_inside : (c w v : ℕ) → o ≡ SStore c w → v ≡ reg f w → Does e s d (storing e (num key) v) r f b u t → Does e s d (access_of e o) r f b u t
      store_inside c w v p y i = key_inside (subst (λ (z : Access). Does e s d (keyed e z f (num key)) r f b u t) (sym p) (rw (← y) i))
