-- A plan's parts are what the rule says, a plan with room makes the tables ready, and what is then put in is what the rule leaves. Assumes nothing.
use Rattle.std.specs.Prelude.{◌≡◌, List, ℕ}
use Rattle.std.proofs.Math.Path.{sym, ap}
use Rattle.std.proofs.Common.{◌∙◌}
use Rattle.std.proofs.Math.Bool.{Bool, true}
use Rattle.words.specs.Choice.{both}
use Rattle.words.specs.ChoiceLaws.{both_left, both_right}
use Rattle.tables.specs.Rows.{rows}
use Rattle.tables.specs.LayoutLaws.{rows_length}
use Rattle.keys.specs.Known.{KeyEnv, Keys}
use Rattle.keys.specs.Values.{row, has, look, look_in, fetched_with}
use Rattle.keys.specs.Steps.{fits, pays_fresh, fresh_at, store_price, store_price_at, stored}
use Rattle.keys.specs.Lent.{KeyBufs, Given, key_bufs, loader_of, key_env_of, keys_of, rooms_of}
use Rattle.keys.specs.Sound.{Good, PutIf, Leaves, holds}
use Rattle.keys.specs.StorePlans.{store_plan, store_fits, StoreReady}
use Rattle.keys.specs.RoomLaws.{table_fits, held_put}
use Rattle.keys.specs.declared.counts.Counts.{Counts}
use Rattle.keys.specs.declared.look.Look.{Look}
use Rattle.keys.specs.declared.look.TableRows.{TableRows}
use Rattle.keys.specs.declared.store.StorePlan.{StorePlan}

module _ (l : TableRows) (g : Given) (c : Counts) (b : KeyBufs) (ok : Good c b) (k v : ℕ) where
  abbrev e : KeyEnv
  e = key_env_of l g

  abbrev s : Keys
  s = keys_of c b

  -- the two tables that a store leaves alone fit
  room_is : (seen : Look) (fresh : Bool) → look e s k ≡ seen → fresh_at e s k v ≡ fresh
      → fits (rooms_of b) (stored e s k v) ≡ store_fits c.changes c.fetched c.paid k v seen fresh b.changes b.fetched b.paid
  unfolding fits stored fetched_with store_fits
  room_is seen fresh q f =
      rw (q, f, table_fits 32 c.reads b.may_read ok.may_read.table, table_fits 32 c.writes b.may_write ok.may_write.table)

  -- the parts of a plan
  module _ (seen : Look) (fresh room : Bool) (price : ℕ)
      (qs : seen ≡ look_in (rows 40 c.changes b.changes) (rows 40 l.store g.store) (rows 40 c.fetched b.fetched)
      (loader_of l.has_loader (rows 40 l.loader g.loader)) k)
      (qf : fresh ≡ pays_fresh v seen.value (has k (rows 32 c.paid b.paid)) (has k (rows 32 c.writes b.may_write)) c.changes)
      (qp : price ≡ store_price fresh (has k (rows 40 c.changes b.changes)) c.changes)
      (qr : room ≡ store_fits c.changes c.fetched c.paid k v seen fresh b.changes b.fetched b.paid) where
    look_is : look e s k ≡ seen
    unfolding look
    look_is = sym qs

    fresh_is : fresh_at e s k v ≡ fresh
    unfolding fresh_at
    fresh_is = rw (look_is, rows_length 40 c.changes b.changes) (sym qf)

    price_is : store_price_at e s k v ≡ price
    unfolding store_price_at
    price_is = rw (fresh_is, rows_length 40 c.changes b.changes) (sym qp)

    pub planned : record { look = seen; fresh = fresh; price = price; room = room } ≡ store_plan (rooms_of b) e s k v
    unfolding store_plan
    planned = λ i. record { look = sym look_is i; fresh = sym fresh_is i; price = sym price_is i; room = (qr ∙ sym (room_is seen fresh look_is fresh_is)) i }

  -- a plan
  module _ (p : StorePlan) (q : p ≡ store_plan (rooms_of b) e s k v) where
    seen_is : look e s k ≡ p.look
    unfolding store_plan
    seen_is = sym (ap (λ (x : StorePlan). x.look) q)

    pays_is : fresh_at e s k v ≡ p.fresh
    unfolding store_plan
    pays_is = sym (ap (λ (x : StorePlan). x.fresh) q)

    fits_is : p.room ≡ store_fits c.changes c.fetched c.paid k v p.look p.fresh b.changes b.fetched b.paid
    unfolding store_plan
    fits_is = ap (λ (x : StorePlan). x.room) q ∙ room_is p.look p.fresh seen_is pays_is

    pub store_ready : p.room ≡ true → StoreReady c p k v b.changes b.fetched b.paid
    unfolding store_fits
    store_ready r =
        let x : Bool = holds 40 c.changes true (row k v) b.changes in
        let y : Bool = holds 40 c.fetched p.look.came (row k p.look.value) b.fetched in
        let z : Bool = holds 32 c.paid p.fresh (row k 0) b.paid in
        let f = sym fits_is ∙ r in
        let h = both_right x (both y z) f in
        record {
          changes_held = ok.changes.table;
          fetched_held = ok.fetched.table;
          paid_held = ok.paid.table;
          changes_fit = both_left x (both y z) f;
          fetched_fit = both_left y z h;
          paid_fit = both_right y z h;
        }

    module _ (nc nf np : ℕ) (uc uf up : List ℕ) (pc : PutIf 40 c.changes nc true (row k v) b.changes uc)
        (pf : PutIf 40 c.fetched nf p.look.came (row k p.look.value) b.fetched uf)
        (pp : PutIf 32 c.paid np p.fresh (row k 0) b.paid up) where
      pub stored_so : Leaves (stored e s k v)
          (record { changes = nc; fetched = nf; reads = c.reads; writes = c.writes; paid = np })
          (key_bufs uc uf b.may_read b.may_write up)
      unfolding stored fetched_with
      stored_so = record {
        are = rw (seen_is, pays_is, pc.are, pf.are, pp.are);
        good = record {
          changes = held_put ok.changes pc;
          fetched = held_put ok.fetched pf;
          may_read = ok.may_read;
          may_write = ok.may_write;
          paid = held_put ok.paid pp;
        };
      }
