-- Each end of a move is its rule's. Assumes nothing.
use Rattle.std.specs.Prelude.{◌≡◌, refl, Bool, true, false, ℕ, zero, suc, ◌+◌, ◌-◌, ◌*◌, ◌/◌, ◌≤◌, ◌<◌, eqb, take, drop, set, Option, Some, None}
use Rattle.std.proofs.Math.Path.{sym, ap}
use Rattle.std.proofs.Common.{◌∙◌, arith, drop-drop, lt-ltb, le-ltb, ltb-true, ltb-false, eqb-true}
use mathlib.Core.List.{List, [], ◌∷◌}
use Rattle.std.proofs.Math.Dec.{ltb}
use Rattle.std.proofs.Math.ListN.{length, get_or, length-set}
use Rattle.std.proofs.lemmas.Bool.{eqb-false}
use Rattle.words.specs.Choice.{pick}
use Rattle.words.specs.Bytes.{num, words_of}
use Rattle.words.specs.BytesLaws.{length_words}
use Rattle.state.specs.Stack.{push_of, pop_of}
use Rattle.state.specs.Memory.{inside, load_of, stored_at}
use Rattle.state.specs.declared.regs.RegFile.{RegFile}
use Rattle.machine.specs.Machine.{Machine, reg_to}
use Rattle.machine.specs.Rules.{Rule, next}
use Rattle.machine.specs.MoveRules.{pushing, popping}
use Rattle.machine.specs.Sound.{stack_of, machine_of}
use Rattle.machine.specs.Does.{sets, goes, stops}
use Rattle.machine.proofs.TurnLaws.{pass_stops, need_on, need_stops, goes_next, sets_next}
use Rattle.machine.specs.RunParts.{with_depth}
use Rattle.machine.specs.SoundLaws.{depth_sound, memory_sound, stack_sound}
use Rattle.machine.specs.StackLaws.{stack_length, stack_pushed, stack_popped}
use Rattle.machine.specs.declared.run.Run.{Run}
use Rattle.machine.specs.declared.turn.Turn.{Turn}
use Rattle.ops_moves.specs.Around.{Around, DoesIn, Constants, MemoryLoads, MemoryStores}
use Rattle.state.specs.declared.fault.Fault.TheVariants.{BadConst, BadMemory, StackOverflow, StackUnderflow}

-- ---- constants

words_at : (n k : ℕ) (s : List ℕ) → k < n → get_or (words_of n s) k 0 ≡ num (take 8 (drop (k * 8) s))
unfolding words_of
words_at zero k s h = absurd (omega arith)
words_at (suc n) zero s h = refl
words_at (suc n) (suc k) s h =
    let z : 8 + k * 8 ≡ suc k * 8 = omega arith in
    words_at n k (drop 8 s) (omega arith) ∙ ap (λ (l : List ℕ). num (take 8 l)) (drop-drop (k * 8) 8 s ∙ ap (λ (i : ℕ). drop i s) z)

module _ (r : Run) (consts : List ℕ) (d k : ℕ) where
  pub constant_stops : length consts / 8 ≤ k → Constants r consts d k (stops r BadConst)
  constant_stops h x f mem st q l so =
      need_stops {ok = ltb k (length x.env.consts)} BadConst 8 refl (omega arith)
      (rw (q, length_words (length consts / 8) consts) (le-ltb k (length consts / 8) h))

  pub constant_sets : (v : ℕ) → k < length consts / 8 → v ≡ num (take 8 (drop (k * 8) consts)) → Constants r consts d k (sets r d v)
  unfolding machine_of
  constant_sets v h e x f mem st q l so =
      let w : v ≡ get_or x.env.consts k 0 = rw q (e ∙ sym (words_at (length consts / 8) k consts h)) in
      need_on {ok = ltb k (length x.env.consts)} 8
      (rw (q, length_words (length consts / 8) consts) (lt-ltb k (length consts / 8) h))
      (sets_next d v l (rw w) so)

-- ---- the stack

push_told : (size depth n : ℕ) (p : Option ℕ) → p ≡ push_of size depth → p ≡ Some n → (depth < size) × (n ≡ depth + 1)
push_told size depth n p e k = go (ltb depth size) refl (sym k ∙ e)
  where
    go : (t : Bool) → ltb depth size ≡ t → Some n ≡ pick t (Some (depth + 1)) None → (depth < size) × (n ≡ depth + 1)
    go true q z = (ltb-true depth size q, cc)
    go false q z = absurd (let w : ◌≡◌ {A = ℕ} 0 1 = cc in omega arith)

push_full : (size depth : ℕ) (p : Option ℕ) → p ≡ push_of size depth → p ≡ None → size ≤ depth
push_full size depth p e k = go (ltb depth size) refl (sym k ∙ e)
  where
    go : (t : Bool) → ltb depth size ≡ t → None ≡ pick t (Some (depth + 1)) None → size ≤ depth
    go true q z = absurd (let w : ◌≡◌ {A = ℕ} 0 1 = cc in omega arith)
    go false q z = ltb-false depth size q

pop_told : (st : List ℕ) (depth v : ℕ) (p : Option ℕ) → p ≡ pop_of st depth → p ≡ Some v → (depth ≡ 0 → ⊥) × (v ≡ get_or st (depth - 1) 0)
pop_told st depth v p e k = go (eqb depth 0) refl (sym k ∙ e)
  where
    go : (t : Bool) → eqb depth 0 ≡ t → Some v ≡ pick t None (Some (get_or st (depth - 1) 0)) →
        (depth ≡ 0 → ⊥) × (v ≡ get_or st (depth - 1) 0)
    go true q z = absurd (let w : ◌≡◌ {A = ℕ} 0 1 = cc in omega arith)
    go false q z = (eqb-false depth 0 q, cc)

pop_none : (st : List ℕ) (depth : ℕ) (p : Option ℕ) → p ≡ pop_of st depth → p ≡ None → depth ≡ 0
pop_none st depth p e k = go (eqb depth 0) refl (sym k ∙ e)
  where
    go : (t : Bool) → eqb depth 0 ≡ t → None ≡ pick t None (Some (get_or st (depth - 1) 0)) → depth ≡ 0
    go true q z = eqb-true depth 0 q
    go false q z = absurd (let w : ◌≡◌ {A = ℕ} 0 1 = cc in omega arith)

pub pop_word : (st : List ℕ) (depth v : ℕ) (p : Option ℕ) → p ≡ pop_of st depth → p ≡ Some v → 1 ≤ depth
pop_word st depth v p e k = let (h, _) = pop_told st depth v p e k in omega arith

module _ (x : Around) (r : Run) (f : RegFile) (mem st st' : List ℕ) (v : ℕ) (p : Option ℕ) (e : p ≡ push_of (length st) r.depth) (u : st' ≡ set st r.depth v) (rule : Machine → Rule) where
  -- onto the stack, and on by the rule
  pub pushes_on : (n : ℕ) (t : Turn) → p ≡ Some n → DoesIn x (with_depth r n) f mem st' mem st' rule t → DoesIn x r f mem st mem st' (λ m. pushing m v rule) t
  unfolding machine_of
  pushes_on n t k then l so =
      let (h, i) = push_told (length st) r.depth n p e k in
      let w : length st ≡ 1024 = so.sized.stack in
      let lu : length st' ≡ length st = ap length u ∙ length-set st r.depth v in
      let on = depth_sound (stack_sound so st' lu) n (omega arith) in
      let is : stack_of n st' ≡ v ∷ stack_of r.depth st = rw (i, u) (stack_pushed r.depth v st h) in
      need_on {ok = ltb (length (stack_of r.depth st)) 1024} 4
      (rw (stack_length r.depth st) (lt-ltb r.depth 1024 (omega arith)))
      (rw is at (then l on))

  pub pushes_not : p ≡ None → DoesIn x r f mem st mem st' (λ m. pushing m v rule) (stops r StackOverflow)
  unfolding machine_of
  pushes_not k l so =
      let h = push_full (length st) r.depth p e k in
      let w : length st ≡ 1024 = so.sized.stack in
      need_stops {ok = ltb (length (stack_of r.depth st)) 1024} StackOverflow 4 refl (omega arith)
      (rw (stack_length r.depth st) (le-ltb r.depth 1024 (omega arith)))

module _ (x : Around) (r : Run) (f : RegFile) (mem st : List ℕ) (p : Option ℕ) (e : p ≡ pop_of st r.depth) (rule : ℕ → Machine → Rule) where
  -- off the stack, and on by the rule
  pub pops_on : (v : ℕ) (t : Turn) → p ≡ Some v → DoesIn x (with_depth r (r.depth - 1)) f mem st mem st (rule v) t →
      DoesIn x r f mem st mem st (λ m. popping m rule) t
  unfolding machine_of
  pops_on v t k then l so =
      let (h, i) = pop_told st r.depth v p e k in
      let on = depth_sound so (r.depth - 1) (omega (arith, so.depth)) in
      rw (stack_popped r.depth st h, ← i) (then l on)

  pub pops_not : p ≡ None → DoesIn x r f mem st mem st (λ m. popping m rule) (stops r StackUnderflow)
  unfolding machine_of stack_of
  pops_not k l so =
      let z : stack_of r.depth st ≡ [] = ap (λ (n : ℕ). stack_of n st) (pop_none st r.depth p e k) in
      rw z (pass_stops StackUnderflow 5 refl (λ n. omega arith))

-- the run goes on as it is, or with a word put
pub move_goes_on : (x : Around) (r : Run) (f : RegFile) (mem st : List ℕ) → DoesIn x r f mem st mem st next (goes r)
unfolding machine_of
move_goes_on x r f mem st l so = goes_next l refl so

pub sets_on : (x : Around) (r : Run) (f : RegFile) (mem st : List ℕ) (d v : ℕ) → DoesIn x r f mem st mem st (λ m. next (reg_to m d v)) (sets r d v)
unfolding machine_of
sets_on x r f mem st d v l so = sets_next d v l refl so

-- ---- memory

module _ (r : Run) (d at : ℕ) (mem : List ℕ) (p : Option ℕ) (e : p ≡ load_of mem at) where
  load_told : (v : ℕ) → p ≡ Some v → (inside (length mem) at 8 ≡ true) × (v ≡ num (take 8 (drop at mem)))
  load_told v k = go (inside (length mem) at 8) refl (sym k ∙ e)
    where
      go : (t : Bool) → inside (length mem) at 8 ≡ t → Some v ≡ pick t (Some (num (take 8 (drop at mem)))) None →
          (inside (length mem) at 8 ≡ true) × (v ≡ num (take 8 (drop at mem)))
      go true q z = (q, cc)
      go false q z = absurd (let w : ◌≡◌ {A = ℕ} 0 1 = cc in omega arith)

  load_outside : p ≡ None → inside (length mem) at 8 ≡ false
  load_outside k = go (inside (length mem) at 8) refl (sym k ∙ e)
    where
      go : (t : Bool) → inside (length mem) at 8 ≡ t → None ≡ pick t (Some (num (take 8 (drop at mem)))) None →
          inside (length mem) at 8 ≡ false
      go true q z = absurd (let w : ◌≡◌ {A = ℕ} 0 1 = cc in omega arith)
      go false q z = q

  pub loads_on : (v : ℕ) → p ≡ Some v → MemoryLoads r d at mem (sets r d v)
  unfolding machine_of
  loads_on v k x f st l so =
      let (q, w) = load_told v k in
      need_on 6 q
      (rw (← w) (sets_on x r f mem st d v l so))

  pub loads_not : p ≡ None → MemoryLoads r d at mem (stops r BadMemory)
  unfolding machine_of
  loads_not k x f st l so = need_stops BadMemory 6 refl (omega arith) (load_outside k)

module _ (r : Run) (at v : ℕ) (mem mem' : List ℕ) (ok : Bool) (e : ok ≡ inside (length mem) at 8) where
  pub stores_on : ok ≡ true → mem' ≡ stored_at mem at v → length mem' ≡ length mem → MemoryStores r at v mem mem' (goes r)
  unfolding machine_of
  stores_on k u lu x f st l so =
      let on = memory_sound so mem' lu in
      need_on 6 (sym e ∙ k)
      (rw (← u) (move_goes_on x r f mem' st l on))

  pub stores_not : ok ≡ false → MemoryStores r at v mem mem' (stops r BadMemory)
  unfolding machine_of
  stores_not k x f st l so = need_stops BadMemory 6 refl (omega arith) (sym e ∙ k)
