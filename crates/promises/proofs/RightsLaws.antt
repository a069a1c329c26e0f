-- Demand 3, rights: every step stores a declared slot or a key that an earlier Hash authorised for writing. Assumes nothing.
use Rattle.std.specs.Prelude.{◌≡◌, refl, Bool, true, false, List, [], ◌∷◌, ◌++◌, ℕ, ◌≤◌, eqb, Option, Some, None}
use Rattle.std.proofs.Common.{arith, eqb-true}
use Rattle.words.specs.Choice.{pick, either}
use Rattle.words.specs.Lists.{member}
use Rattle.isa.specs.declared.instr.Instr.{Instr}
use Rattle.state.specs.Regs.{reg}
use Rattle.tables.specs.Rows.{insert}
use Rattle.keys.specs.Known.{Keys}
use Rattle.keys.specs.Values.{row, has, put_if, may_store}
use Rattle.keys.specs.Steps.{loaded, stored, authorised}
use Rattle.machine.specs.Machine.{Env, Machine, bare}
use Rattle.machine.proofs.RuleLaws.{Passed}
use Rattle.machine.specs.Actions.{action_of}
use Rattle.machine.specs.StorageRules.{key_at, storing, access_of}
use Rattle.machine.specs.Grants.{Grant, grant_by}
use Rattle.machine.specs.KeysLaws.{granted, access_keys, keys_after}
use Rattle.machine.specs.Turns.{act_of, rule_of, End, halted, faulted}
use Rattle.machine.specs.declared.action.Action.{Action}
use Rattle.machine.specs.declared.action.Action.TheVariants as action
use Rattle.machine.specs.declared.action.Access.TheVariants.{SLoad, SStore}
use Rattle.machine.specs.Trace.{Took, took}
use Rattle.promises.specs.Accounts.{stores_by, stores_of, writable, grants_by, grants_of, Righted, stored_in}
use Rattle.machine.proofs.TraceLaws.{Traced}
use Rattle.machine.proofs.TraceLaws.Traced.{faults, halts, goes}
use Rattle.promises.specs.CountingLaws.{has_insert}

-- ---- tests

false_true : {A : Type 0} → false ≡ true → A
false_true h = absurd (let z : ◌≡◌ {A = ℕ} 0 1 = cc in omega arith)

-- a test that holds of one of two, and each of them gives another
either_gives : (a b c : Bool) → (a ≡ true → c ≡ true) → (b ≡ true → c ≡ true) → either a b ≡ true → c ≡ true
either_gives true b c f g h = f refl
either_gives false b c f g h = g h

either_left : (a b : Bool) → a ≡ true → either a b ≡ true
either_left true b h = refl
either_left false b h = false_true h

either_right : (a b : Bool) → b ≡ true → either a b ≡ true
either_right true b h = refl
either_right false b h = h

-- ---- numbers in lists

member_left : (k : ℕ) (xs ys : List ℕ) → member k xs ≡ true → member k (xs ++ ys) ≡ true
unfolding member
member_left k [] ys h = false_true h
member_left k (x ∷ xs) ys h =
    either_gives (eqb x k) (member k xs) (either (eqb x k) (member k (xs ++ ys))) (either_left (eqb x k) (member k (xs ++ ys))) (λ q. either_right (eqb x k) (member k (xs ++ ys)) (member_left k xs ys q)) h

member_right : (k : ℕ) (xs ys : List ℕ) → member k ys ≡ true → member k (xs ++ ys) ≡ true
unfolding member
member_right k [] ys h = h
member_right k (x ∷ xs) ys h = either_right (eqb x k) (member k (xs ++ ys)) (member_right k xs ys h)

-- held before or in a list, and so where the list goes on
now_or : (k : ℕ) (before : Bool) (xs ys : List ℕ) → either before (member k xs) ≡ true → either before (member k (xs ++ ys)) ≡ true
now_or k before xs ys h =
    either_gives before (member k xs) (either before (member k (xs ++ ys))) (either_left before (member k (xs ++ ys))) (λ q. either_right before (member k (xs ++ ys)) (member_left k xs ys q)) h

-- ---- a step that stores had the right

-- a condition that passed holds
held : (ok : Bool) (n : ℕ) → 1 ≤ n → pick ok 0 n ≡ 0 → ok ≡ true
held true n l h = refl
held false n l h = absurd (omega arith)

-- the one number of a list
only : (k x : ℕ) → member k (x ∷ []) ≡ true → x ≡ k
unfolding member
only k x h = eqb-true x k (either_gives (eqb x k) false (eqb x k) (λ q. q) false_true h)

module _ (e : Env) (m : Machine) where
  store_held : (i : Instr) (o : Action) (k : ℕ) → member k (stores_by o m) ≡ true → Passed (act_of e i o (bare m)) →
      may_store e.keys.writes m.keys.may_write k ≡ true
  unfolding stores_by member act_of access_of storing
  store_held i action.Halt k h y = false_true h
  store_held i action.Nop k h y = false_true h
  store_held i action.Registers k h y = false_true h
  store_held i (action.Moves o) k h y = false_true h
  store_held i (action.Jumps o) k h y = false_true h
  store_held i (action.Storage (SLoad d a)) k h y = false_true h
  store_held i (action.Storage (SStore a b)) k h y =
      let key = key_at m (reg m.regs a) in
      rw (only k key h) at (held (may_store e.keys.writes m.keys.may_write key) 12 (omega arith) y.1.0)
  store_held i (action.Posts o) k h y = false_true h
  store_held i (action.Hash a b c) k h y = false_true h
  store_held i (action.Checks o) k h y = false_true h

-- ---- and only a Hash gives one

-- these numbers hold every key that may be stored
abbrev pub Allows : Env → List ℕ → Keys → Type 0
Allows e ks s = (k : ℕ) → may_store e.keys.writes s.may_write k ≡ true → member k ks ≡ true

grant_allows : (e : Env) (s : Keys) (ks : List ℕ) (g : Option Grant) → Allows e ks s → Allows e (writable e g ++ ks) (granted e.keys s g)
unfolding writable granted authorised member
grant_allows e s ks None a = a
grant_allows e s ks (Some g) a = go (member g.base e.keys.keyed_writes)
  where
    go : (b : Bool) → (k : ℕ) → may_store e.keys.writes (put_if b (row g.key 0) s.may_write) k ≡ true → member k (pick b (g.key ∷ []) [] ++ ks) ≡ true
    go false k h = a k h
    go true k h =
        let c = either (eqb g.key k) (member k ks) in
        either_gives (member k e.keys.writes) (has k (insert (row g.key 0) s.may_write)) c
        (λ q. either_right (eqb g.key k) (member k ks) (a k (either_left (member k e.keys.writes) (has k s.may_write) q)))
        (λ q. either_gives (eqb g.key k) (has k s.may_write) c (either_left (eqb g.key k) (member k ks)) (λ z. either_right (eqb g.key k) (member k ks) (a k (either_right (member k e.keys.writes) (has k s.may_write) z))) (rw (has_insert k (row g.key 0) s.may_write) at q))
        h

act_allows : (e : Env) (m : Machine) (ks : List ℕ) (o : Action) → Allows e ks m.keys → Allows e (grants_by e o m ++ ks) (keys_after e o m)
unfolding grants_by keys_after access_keys loaded stored
act_allows e m ks action.Halt a = a
act_allows e m ks action.Nop a = a
act_allows e m ks action.Registers a = a
act_allows e m ks (action.Moves o) a = a
act_allows e m ks (action.Jumps o) a = a
act_allows e m ks (action.Storage (SLoad d r)) a = a
act_allows e m ks (action.Storage (SStore r b)) a = a
act_allows e m ks (action.Posts o) a = a
act_allows e m ks (action.Hash r b c) a = grant_allows e m.keys ks (grant_by e r b c m) a
act_allows e m ks (action.Checks o) a = a

-- ---- so it is in a run

pub run_righted : (e : Env) (m : Machine) (ts : List Took) (end : End) → Traced e m ts end → (ks : List ℕ) → Allows e ks m.keys → Righted e ks ts
unfolding stores_of grants_of rule_of
run_righted e m ts end (faults n w h) ks l = tt
run_righted e m ts end (halts n p i j f) ks l = (λ k h. l k (store_held e (took n i j).on i (action_of i) k h f.passed), tt)
run_righted e m ts end (goes n p i j us x f r) ks l = (
  λ k h. l k (store_held e (took n i j).on i (action_of i) k h f.passed),
  run_righted e p us x r (grants_of e (took n i j) ++ ks) (rw f.keys (act_allows e (took n i j).on ks (action_of i) l)),
)

-- ---- every key of the changes was stored by a step

act_stores : (e : Env) (m : Machine) (o : Action) (k : ℕ) → has k (keys_after e o m).changes ≡ true →
    either (has k m.keys.changes) (member k (stores_by o m)) ≡ true
unfolding keys_after access_keys loaded stored stores_by member granted authorised
act_stores e m action.Halt k h = either_left (has k m.keys.changes) false h
act_stores e m action.Nop k h = either_left (has k m.keys.changes) false h
act_stores e m action.Registers k h = either_left (has k m.keys.changes) false h
act_stores e m (action.Moves o) k h = either_left (has k m.keys.changes) false h
act_stores e m (action.Jumps o) k h = either_left (has k m.keys.changes) false h
act_stores e m (action.Storage (SLoad d a)) k h = either_left (has k m.keys.changes) false h
act_stores e m (action.Storage (SStore a b)) k h =
    let key = key_at m (reg m.regs a) in
    let now = has k m.keys.changes in
    either_gives (eqb key k) now (either now (either (eqb key k) false)) (λ q. either_right now (either (eqb key k) false) (either_left (eqb key k) false q)) (either_left now (either (eqb key k) false))
    (rw (has_insert k (row key (reg m.regs b)) m.keys.changes) at h)
act_stores e m (action.Posts o) k h = either_left (has k m.keys.changes) false h
act_stores e m (action.Hash a b c) k h = either_left (has k m.keys.changes) false (rw (granted_changes (grant_by e a b c m)) at h)
  where
    granted_changes : (g : Option Grant) → (granted e.keys m.keys g).changes ≡ m.keys.changes
    granted_changes None = refl
    granted_changes (Some g) = refl
act_stores e m (action.Checks o) k h = either_left (has k m.keys.changes) false h

-- a key of the changes at a halt stood there before, or a step stored it
abbrev pub StoredBy : Machine → List Took → End → Type 0
StoredBy m ts (halted p) = (k : ℕ) → has k p.keys.changes ≡ true → either (has k m.keys.changes) (member k (stored_in ts)) ≡ true
StoredBy m ts (faulted w f) = Unit {0}

pub run_stored : (e : Env) (m : Machine) (ts : List Took) (end : End) → Traced e m ts end → StoredBy m ts end
unfolding stored_in stores_of
run_stored e m ts end (faults n w h) = tt
run_stored e m ts end (halts n p i j f) =
    λ k h. now_or k (has k n.keys.changes) (stores_by (action_of i) (took n i j).on) [] (act_stores e (took n i j).on (action_of i) k (rw f.keys at h))
run_stored e m ts end (goes n p i j us x f r) = go x (run_stored e p us x r)
  where
    go : (x : End) → StoredBy p us x → StoredBy n (took n i j ∷ us) x
    go (faulted w g) h = tt
    go (halted q) h = λ k z.
        let before = has k n.keys.changes in
        let by = stores_by (action_of i) (took n i j).on in
        either_gives (has k p.keys.changes) (member k (stored_in us)) (either before (member k (by ++ stored_in us)))
        (λ s. now_or k before by (stored_in us) (act_stores e (took n i j).on (action_of i) k (rw f.keys at s)))
        (λ s. either_right before (member k (by ++ stored_in us)) (member_right k by (stored_in us) s)) (h k z)
