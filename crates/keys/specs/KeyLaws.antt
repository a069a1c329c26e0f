-- A plan's parts are what the rule says, a plan with room makes the lists ready, and what is then put in is what the rule leaves. Assumes nothing.
use Rattle.std.specs.Prelude.{◌≡◌, List, ℕ}
use Rattle.std.proofs.Math.Path.{sym, ap}
use Rattle.std.proofs.Common.{◌∙◌}
use Rattle.std.proofs.Math.Bool.{Bool, true}
use Rattle.words.specs.Bytes.{words_in}
use Rattle.words.specs.Choice.{either}
use Rattle.words.specs.ChoiceLaws.{both_left, both_right, both_true}
use Rattle.words.specs.Lists.{member}
use Rattle.tables.specs.Rows.{rows}
use Rattle.keys.specs.Known.{KeyEnv, Keys}
use Rattle.keys.specs.Values.{row, has}
use Rattle.keys.specs.Steps.{fits, keyed, key_price, key_price_at, key_bytes, key_bytes_at, authorised}
use Rattle.keys.specs.Lent.{KeyBufs, Given, key_bufs, key_env_of, keys_of, rooms_of}
use Rattle.keys.specs.Sound.{Good, PutIf, Leaves, holds}
use Rattle.keys.specs.KeyPlans.{key_plan, key_fits, KeyReady}
use Rattle.keys.specs.RoomLaws.{table_fits, held_put}
use Rattle.keys.specs.declared.counts.Counts.{Counts}
use Rattle.keys.specs.declared.look.TableRows.{TableRows}
use Rattle.keys.specs.declared.authorise.KeyPlan.{KeyPlan}

module _ (l : TableRows) (g : Given) (c : Counts) (b : KeyBufs) (ok : Good c b) (base k : ℕ) where
  abbrev e : KeyEnv
  e = key_env_of l g

  abbrev s : Keys
  s = keys_of c b

  -- the three tables that authorising leaves alone fit
  room_is : (write : Bool) → write ≡ member base (words_in g.keyed_writes)
      → key_fits c.reads c.writes k write b.may_read b.may_write ≡ fits (rooms_of b) (authorised e s base k)
  unfolding fits authorised key_fits
  room_is write q =
      rw (
        ← q,
        table_fits 40 c.changes b.changes ok.changes.table,
        table_fits 40 c.fetched b.fetched ok.fetched.table,
        table_fits 32 c.paid b.paid ok.paid.table,
        both_true (holds 32 c.writes write (row k 0) b.may_write),
      )

  -- the parts of a plan
  module _ (is write written read room : Bool) (price bytes : ℕ) (qw : write ≡ member base (words_in g.keyed_writes))
      (qk : is ≡ either write (member base (words_in g.keyed_reads)))
      (qu : written ≡ has k (rows 32 c.writes b.may_write)) (qr : read ≡ has k (rows 32 c.reads b.may_read))
      (qp : price ≡ key_price written read) (qb : bytes ≡ key_bytes write written read) (qf : room ≡ key_fits c.reads c.writes k write b.may_read b.may_write) where
    keyed_is : is ≡ keyed e base
    unfolding keyed
    keyed_is = rw (← qw) qk

    price_is : price ≡ key_price_at s k
    unfolding key_price_at
    price_is = rw (← qu, ← qr) qp

    bytes_is : bytes ≡ key_bytes_at e s base k
    unfolding key_bytes_at
    bytes_is = rw (← qw, ← qu, ← qr) qb

    pub key_planned : record { keyed = is; write = write; price = price; bytes = bytes; room = room } ≡ key_plan (rooms_of b) e s base k
    unfolding key_plan
    key_planned = λ i. record { keyed = keyed_is i; write = qw i; price = price_is i; bytes = bytes_is i; room = (qf ∙ room_is write qw) i }

  -- a plan
  module _ (p : KeyPlan) (q : p ≡ key_plan (rooms_of b) e s base k) where
    write_is : p.write ≡ member base (words_in g.keyed_writes)
    unfolding key_plan
    write_is = ap (λ (x : KeyPlan). x.write) q

    fits_is : key_fits c.reads c.writes k p.write b.may_read b.may_write ≡ p.room
    unfolding key_plan
    fits_is = room_is p.write write_is ∙ sym (ap (λ (x : KeyPlan). x.room) q)

    pub key_ready : p.room ≡ true → KeyReady c p k b.may_read b.may_write
    unfolding key_fits
    key_ready r =
        let x : Bool = holds 32 c.reads true (row k 0) b.may_read in
        let y : Bool = holds 32 c.writes p.write (row k 0) b.may_write in
        let f = fits_is ∙ r in
        record { read_held = ok.may_read.table; write_held = ok.may_write.table; read_fit = both_left x y f; write_fit = both_right x y f }

    pub authorised_so : (nr nw : ℕ) (ur uw : List ℕ) → PutIf 32 c.reads nr true (row k 0) b.may_read ur
        → PutIf 32 c.writes nw p.write (row k 0) b.may_write uw
        → Leaves (authorised e s base k)
        (record { changes = c.changes; fetched = c.fetched; reads = nr; writes = nw; paid = c.paid })
        (key_bufs b.changes b.fetched ur uw b.paid)
    unfolding authorised
    authorised_so nr nw ur uw pr pw = record {
      are = rw (← write_is, pr.are, pw.are);
      good = record {
        changes = ok.changes;
        fetched = ok.fetched;
        may_read = held_put ok.may_read pr;
        may_write = held_put ok.may_write pw;
        paid = ok.paid;
      };
    }
