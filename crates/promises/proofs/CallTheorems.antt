-- Demand 3 holds of every call. Assumes nothing.
use Rattle.std.specs.Prelude.{◌≡◌, Bool, List, [], ℕ, suc, ◌+◌, ◌-◌, ◌/◌, length}
use Rattle.std.proofs.Math.Path.{refl, ap}
use Rattle.std.proofs.Common.{sym, ◌∙◌, arith}
use Rattle.std.proofs.Math.Bool.{true, false}
use Rattle.words.specs.Choice.{pick, either}
use Rattle.words.specs.Lists.{member}
use Rattle.meter.specs.Prices.{dispatch_price}
use Rattle.tables.specs.Rows.{Row, rows, lookup}
use Rattle.keys.specs.Known.{Keys}
use Rattle.keys.specs.Values.{has}
use Rattle.keys.specs.Lent.{loader_of}
use Rattle.keys.specs.Opening.{no_keys}
use Rattle.changes.specs.ChangeList.{start_of}
use Rattle.container.specs.Container.{Container}
use Rattle.container.specs.Reader.{done, read_of}
use Rattle.machine.specs.Machine.{Env, Machine}
use Rattle.words.specs.declared.refusal.Refusal.{Refusal}
use Rattle.machine.specs.Turns.{End, halted, faulted, run_of}
use Rattle.opening.specs.Opening.{Input, Lent, Opening, refuse, start, env_of, machine_for, opening_of}
use Rattle.interp.specs.Call.{called, halted_as, kept_of, refused_as, ending, running, call_of}
use Rattle.promises.specs.OpenedLaws.{StartedFrom, starts_from_lem, Numbered, refusals_numbered}
use Rattle.promises.specs.Accounts.{bill_of, stored_in}
use Rattle.machine.proofs.TraceLaws.{Traced, runs}
use Rattle.promises.proofs.BillLaws.{run_counts, fetches_of, run_fetches}
use Rattle.promises.proofs.RightsLaws.{Allows, run_righted, run_stored}
use Rattle.promises.specs.Grown.{loader_rows, start_in}
use Rattle.promises.specs.RunGrowthLaws.{Growth, none_grew, grown_paid, run_grows}
use Rattle.promises.specs.Promised.{ran_of, bill_for, start_at, Halted, Promised}

-- ---- an accepted opening's run

-- a loader's rows, if it is there
starts_same : (ss ls : List Row) (p : Bool) → ◌≡◌ {A = ℕ → ℕ} (λ k. start_of ss (loader_rows (loader_of p ls)) k) (λ k. start_of ss (pick p ls []) k)
unfolding loader_rows
starts_same ss ls true = refl
starts_same ss ls false = refl

none_before : (cs : List Row) (j : ℕ) (t : Bool) → cs ≡ [] → either (has j cs) t ≡ true → t ≡ true
unfolding lookup
none_before cs j t q h = rw q at h

module _ (x : Input) (b : Lent) (c : Container) (e : Env) (m : Machine) (s : StartedFrom x b e m) (k : c ≡ s.container) where
  limit_is : e.limit ≡ x.limit
  unfolding env_of
  limit_is = ap (λ (y : Env). y.limit) s.env

  used_first : m.used ≡ dispatch_price (length c.code)
  unfolding machine_for
  used_first = rw k (ap (λ (y : Machine). y.used) s.machine)

  fetches_first : m.fetches ≡ 0
  unfolding machine_for
  fetches_first = ap (λ (y : Machine). y.fetches) s.machine

  keys_first : m.keys ≡ no_keys
  unfolding machine_for
  keys_first = ap (λ (y : Machine). y.keys) s.machine

  starts_are : start_in e.keys ≡ start_at x
  unfolding env_of start_in start_at
  starts_are =
      ap (λ (y : Env). start_in y.keys) s.env ∙ starts_same (rows 40 (length x.store / 40) x.store) (rows 40 (length x.loader / 40) x.loader) x.has_loader

  -- nothing is authorised yet
  allows_first : Allows e e.keys.writes m.keys
  unfolding lookup
  allows_first = rw keys_first (λ j h. declared (member j e.keys.writes) h)
    where
      declared : (t : Bool) → either t false ≡ true → t ≡ true
      declared true h = refl
      declared false h = h

  grew_first : Growth (dispatch_price (length c.code)) e.keys m.keys m.used
  grew_first = rw (keys_first, used_first) (none_grew (dispatch_price (length c.code)) e.keys)

  halted_promised : (p : Machine) → run_of (suc (e.limit - m.used)) e m ≡ halted p → Traced e m (ran_of (start e m)) (halted p) →
      Halted x b (dispatch_price (length c.code)) (start e m) (called (halted_as p) (kept_of p b))
  unfolding bill_for
  halted_promised p q r =
      let ts = ran_of (start e m) in
      let counts = run_counts e m ts (halted p) r in
      let d = dispatch_price (length c.code) in
      let growth = run_grows d e m ts (halted p) r grew_first in
      record {
        last = p;
        halts = q;
        leaves = refl;
        fetches = omega (arith, counts.fetches, fetches_first);
        used = counts.used ∙ ap (λ (n : ℕ). n + bill_of e ts) used_first;
        within = omega (arith, counts.within, limit_is);
        rising = growth.rising;
        stored = λ j h. none_before m.keys.changes j (member j (stored_in ts)) (ap (λ (s : Keys). s.changes) keys_first) (run_stored e m ts (halted p) r j h);
        grown = rw (← starts_are) (grown_paid d e.keys p.keys p.used growth);
      }

  run_promised : (end : End) → run_of (suc (e.limit - m.used)) e m ≡ end → Traced e m (ran_of (start e m)) end → Promised x b c (start e m) (ending end b)
  unfolding fetches_of
  run_promised end q r = record {
    fetches = omega (arith, run_fetches e m (ran_of (start e m)) end r, fetches_are end, limit_is, used_first, fetches_first);
    righted = run_righted e m (ran_of (start e m)) end r e.keys.writes allows_first;
    halted = at_zero end q r;
  }
    where
      fetches_are : (end : End) → (ending end b).answer.fetches ≡ fetches_of end
      fetches_are (halted p) = refl
      fetches_are (faulted w f) = refl

      at_zero : (end : End) → run_of (suc (e.limit - m.used)) e m ≡ end → Traced e m (ran_of (start e m)) end → (ending end b).answer.end.number ≡ 0 →
          Halted x b (dispatch_price (length c.code)) (start e m) (ending end b)
      at_zero (halted p) q r h = halted_promised p q r
      at_zero (faulted w f) q r h = absurd (omega (arith, h, (run_counts e m (ran_of (start e m)) (faulted w f) r).numbered))

-- ---- every call

-- what is promised is of any call whose container can be read; a call of another is refused with no fetch
pub promised : (x : Input) (b : Lent) (c : Container) → read_of x.container ≡ done c → Promised x b c (opening_of x b) (call_of x b)
unfolding call_of running ran_of
promised x b c r = go (opening_of x b) refl (refusals_numbered x b)
  where
    go : (o : Opening) → opening_of x b ≡ o → Numbered o → Promised x b c o (running o b)
    go (refuse n) q k = record { fetches = omega arith; righted = tt; halted = λ h. absurd (omega (arith, h, k)) }
    go (start e m) q k =
        let s = starts_from_lem x b e m q in
        let same : done c ≡ done s.container = sym r ∙ s.is_read in
        let is : c ≡ s.container = cc in
        run_promised x b c e m s is (run_of (suc (e.limit - m.used)) e m) refl (runs (suc (e.limit - m.used)) e m (omega arith))

pub refused_uncounted : (x : Input) (b : Lent) (n : Refusal) → opening_of x b ≡ refuse n → call_of x b ≡ called (refused_as n 0) b
unfolding call_of running
refused_uncounted x b n q = rw q
