-- What a run fetched is what the loader says, so a key that it has not stored shows its starting value. Assumes nothing.
use Rattle.std.specs.Prelude.{◌≡◌, refl, List, [], ℕ, Option, Some, None}
use Rattle.std.proofs.Common.{arith}
use Rattle.tables.specs.Rows.{Row, lookup}
use Rattle.tables.specs.OrderLaws.{Tri, tri}
use Rattle.tables.specs.OrderLaws.Tri.{below, same, above}
use Rattle.tables.specs.RowsTheorems.{lookup_insert_same, lookup_insert_other}
use Rattle.keys.specs.Known.{KeyEnv, Keys}
use Rattle.keys.specs.Values.{row, or_zero, from_loader, first_of, look_in, look, fetched_with}
use Rattle.changes.specs.ChangeList.{or_else, start_of}
use Rattle.promises.specs.Grown.{loader_rows, start_in}

-- a run that stored nothing and fetched these sees every starting value
abbrev pub Honest : KeyEnv → List Row → Type 0
Honest e fs = (j : ℕ) → (look_in [] e.store fs e.loader j).value ≡ start_in e j

pub seen_start : (e : KeyEnv) (s : Keys) (k : ℕ) → Honest e s.fetched → lookup k s.changes ≡ None → (look e s k).value ≡ start_in e k
unfolding look look_in first_of lookup
seen_start e s k h q = rw q (h k)

pub none_honest : (e : KeyEnv) → Honest e []
unfolding look_in first_of from_loader lookup start_in start_of or_else or_zero loader_rows
none_honest e j = go (lookup j e.store) e.loader
  where
    last : (o : Option ℕ) → or_zero o ≡ or_else o 0
    last None = refl
    last (Some v) = refl

    go : (o : Option ℕ) (l : Option (List Row)) → (first_of o (from_loader l j)).value ≡ or_else o (or_else (lookup j (loader_rows l)) 0)
    go (Some v) l = refl
    go None None = refl
    go None (Some ls) = last (lookup j ls)

-- a value that comes from the loader is the starting value
pub fetch_honest : (e : KeyEnv) (s : Keys) (k : ℕ) → Honest e s.fetched → Honest e (fetched_with (look e s k) k s.fetched)
unfolding look look_in first_of from_loader lookup fetched_with
fetch_honest e s k h j = go (lookup k s.changes) (lookup k e.store) (lookup k s.fetched) e.loader refl refl refl refl
  where
    go : (oc os of : Option ℕ) (ol : Option (List Row)) → lookup k s.changes ≡ oc → lookup k e.store ≡ os → lookup k s.fetched ≡ of → e.loader ≡ ol
        → (look_in [] e.store (fetched_with (look e s k) k s.fetched) e.loader j).value ≡ start_in e j
    go (Some v) os of ol ec es ef el = rw ec (h j)
    go None (Some v) of ol ec es ef el = rw (ec, es) (h j)
    go None None (Some v) ol ec es ef el = rw (ec, es, ef) (h j)
    go None None None None ec es ef el = rw (ec, es, ef, el) (rw el at (h j))
    go None None None (Some ls) ec es ef el = new (tri k j)
      where
        other : (k ≡ j → ⊥) → (look_in [] e.store (fetched_with (look e s k) k s.fetched) e.loader j).value ≡ start_in e j
        other apart = rw (ec, es, ef, el, lookup_insert_other j (row k (or_zero (lookup k ls))) s.fetched apart) (rw el at (h j))

        new : Tri k j → (look_in [] e.store (fetched_with (look e s k) k s.fetched) e.loader j).value ≡ start_in e j
        new (below l o) = other (λ q. omega arith)
        new (same l o) = rw (← l, ec, es, ef, el, lookup_insert_same (row k (or_zero (lookup k ls))) s.fetched) (rw (es, ef, el) at (h k))
        new (above l o) = other (λ q. omega arith)
