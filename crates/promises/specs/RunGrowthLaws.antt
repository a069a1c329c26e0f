-- Demand 3, growth: the keys that started as zero and are not zero at a halt number at most 8, and one for each 227000 used. Assumes nothing.
use Rattle.std.specs.Prelude.{◌≡◌, Bool, not, List, ℕ, ◌+◌, ◌-◌, ◌*◌, ◌/◌, ◌≤◌, length, Option, Some, None}
use Rattle.std.proofs.Math.Path.{refl}
use Rattle.std.proofs.Math.Bool.{true, false}
use native.Mathlib.Omega.{arith}
use Rattle.words.specs.Choice.{both, bit}
use Rattle.tables.specs.Rows.{Row, Rising}
use Rattle.tables.specs.RowsTheorems.{rising_insert}
use Rattle.isa.specs.declared.instr.Instr.{Instr}
use Rattle.keys.specs.Known as known
use Rattle.keys.specs.Known.{Keys}
use Rattle.keys.specs.Values.{row, has}
use Rattle.keys.specs.Steps.{loaded, stored, fresh_at, store_price, store_price_at, authorised}
use Rattle.keys.specs.Opening.{no_keys}
use Rattle.machine.specs.Machine.{Env, Machine, bare}
use Rattle.machine.specs.Grants.{Grant, grant_by}
use Rattle.machine.specs.KeysLaws.{granted, access_keys, keys_after}
use Rattle.machine.specs.Actions.{action_of}
use Rattle.machine.specs.Steps.{Step}
use Rattle.machine.specs.Rules.{bill}
use Rattle.machine.specs.StorageRules.{storing, access_of}
use Rattle.machine.specs.Turns.{act_of, rule_of, End, halted, faulted}
use Rattle.machine.specs.declared.action.Action.{Action}
use Rattle.machine.specs.declared.action.Action.TheVariants as action
use Rattle.machine.specs.declared.action.Access.TheVariants.{SLoad, SStore}
use Rattle.machine.specs.Trace.{Took, fetched_from}
use Rattle.machine.proofs.TraceLaws.{base_paid, Finished, Traced}
use Rattle.machine.proofs.TraceLaws.Traced.{faults, halts, goes}
use Rattle.promises.specs.Grown.{start_in, tally, grew}
use Rattle.promises.specs.CountingLaws.{tally_le, tally_has, length_more}
use Rattle.promises.specs.FetchedLaws.{Honest, none_honest, fetch_honest}
use Rattle.promises.specs.GrowthLaws.{unpaid, not_fresh, pays_fresh_lem}

-- at most 8 keys that grew have not paid as fresh; every other paid 227000 of what was used since d
pub record Growth (d : ℕ) (e : known.KeyEnv) (s : Keys) (used : ℕ) : Type 0 where
  pub free : tally (unpaid e s.paid) s.changes ≤ 8
  pub charged : d + 227000 * length s.paid ≤ used
  pub honest : Honest e s.fetched
  pub rising : Rising 0 s.changes

module _ (d : ℕ) (e : known.KeyEnv) where
  pub none_grew : Growth d e no_keys d
  unfolding tally
  none_grew = record { free = omega arith; charged = omega arith; honest = none_honest e; rising = tt }

  module _ (s : Keys) (u : ℕ) (g : Growth d e s u) where
    more_used : (v : ℕ) → u ≤ v → Growth d e s v
    more_used v h = record { free = g.free; charged = omega (arith, g.charged); honest = g.honest; rising = g.rising }

    load_grows : (k : ℕ) → Growth d e (loaded e s k) u
    unfolding loaded
    load_grows k = record { free = g.free; charged = g.charged; honest = fetch_honest e s k g.honest; rising = g.rising }

    store_grows : (k v : ℕ) → Growth d e (stored e s k v) (u + store_price_at e s k v)
    unfolding stored store_price_at store_price
    store_grows k v = go (fresh_at e s k v) refl
      where
        rises : Rising 0 (stored e s k v).changes
        rises = rising_insert 0 (row k v) s.changes (omega arith) g.rising

        go : (b : Bool) → fresh_at e s k v ≡ b → Growth d e (stored e s k v) (u + store_price_at e s k v)
        go true q = record {
          free = rw q (pays_fresh_lem e k v s g.free);
          charged = rw q (omega (arith, g.charged, length_more (row k 0) s.paid));
          honest = fetch_honest e s k g.honest;
          rising = rises;
        }
        go false q = record {
          free = rw q (not_fresh e k v s q g.honest g.free);
          charged = rw q (omega (arith, g.charged));
          honest = fetch_honest e s k g.honest;
          rising = rises;
        }

    grant_grows : (o : Option Grant) → Growth d e (granted e s o) u
    unfolding granted authorised
    grant_grows None = g
    grant_grows (Some x) = record { free = g.free; charged = g.charged; honest = g.honest; rising = g.rising }

  -- what it says of the keys that grew
  pub grown_paid : (s : Keys) (u : ℕ) → Growth d e s u → tally (grew (start_in e)) s.changes ≤ 8 + (u - d) / 227000
  unfolding unpaid
  grown_paid s u g =
      omega (
        arith,
        tally_le (grew (start_in e)) (unpaid e s.paid) (λ (r : Row). has r.key s.paid) s.changes (λ r. split (grew (start_in e) r) (has r.key s.paid)),
        tally_has s.paid s.changes g.rising,
        g.free,
        g.charged,
      )
    where
      split : (a b : Bool) → bit a ≤ bit (both a (not b)) + bit b
      split true true = omega arith
      split true false = omega arith
      split false true = omega arith
      split false false = omega arith

-- ---- in a run

act_grows : (d : ℕ) (e : Env) (i : Instr) (m : Machine) (u : ℕ) → Growth d e.keys m.keys u → (o : Action) →
    Growth d e.keys (keys_after e o m) (u + bill (act_of e i o (bare m)))
unfolding keys_after access_keys act_of access_of storing bill
act_grows d e i m u g action.Halt = more_used d e.keys m.keys u g _ (omega arith)
act_grows d e i m u g action.Nop = more_used d e.keys m.keys u g _ (omega arith)
act_grows d e i m u g action.Registers = more_used d e.keys m.keys u g _ (omega arith)
act_grows d e i m u g (action.Moves o) = more_used d e.keys m.keys u g _ (omega arith)
act_grows d e i m u g (action.Jumps o) = more_used d e.keys m.keys u g _ (omega arith)
act_grows d e i m u g (action.Storage (SLoad r a)) = more_used d e.keys _ u (load_grows d e.keys m.keys u g _) _ (omega arith)
act_grows d e i m u g (action.Storage (SStore a b)) = more_used d e.keys _ _ (store_grows d e.keys m.keys u g _ _) _ (omega arith)
act_grows d e i m u g (action.Posts o) = more_used d e.keys m.keys u g _ (omega arith)
act_grows d e i m u g (action.Hash a b c) = more_used d e.keys _ u (grant_grows d e.keys m.keys u g (grant_by e a b c m)) _ (omega arith)
act_grows d e i m u g (action.Checks o) = more_used d e.keys m.keys u g _ (omega arith)

abbrev pub Grows : ℕ → Env → End → Type 0
Grows d e (halted p) = Growth d e.keys p.keys p.used
Grows d e (faulted w f) = Unit {0}

module _ (d : ℕ) (e : Env) where
  step_grows : (m p : Machine) (i : Instr) (n : ℕ) (s : Step) → Finished e m i n s p → Growth d e.keys m.keys m.used →
      Growth d e.keys p.keys p.used
  unfolding rule_of
  step_grows m p i n s f g =
      rw (f.used, f.keys) (act_grows d e i (fetched_from m i n) (base_paid m i) (more_used d e.keys m.keys m.used g (base_paid m i) (omega arith)) (action_of i))

  pub run_grows : (m : Machine) (ts : List Took) (end : End) → Traced e m ts end → Growth d e.keys m.keys m.used → Grows d e end
  run_grows m ts end (faults n w h) g = tt
  run_grows m ts end (halts n p i j f) g = step_grows n p i j _ f g
  run_grows m ts end (goes n p i j us x f r) g = run_grows p us x r (step_grows n p i j _ f g)
