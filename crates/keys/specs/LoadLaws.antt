-- A load has room where the fetched values have, and a remembered value is what the rule leaves. Assumes nothing.
use Rattle.std.specs.Prelude.{◌≡◌, Bool, true, List, ℕ}
use Rattle.std.proofs.Common.{sym, ◌∙◌}
use Rattle.words.specs.ChoiceLaws.{both_true}
use Rattle.keys.specs.Values.{row, look, fetched_with}
use Rattle.keys.specs.Steps.{fits, loaded}
use Rattle.keys.specs.Lent.{KeyBufs, Given, key_bufs, key_env_of, keys_of, rooms_of}
use Rattle.keys.specs.Sound.{Good, PutIf, Leaves, holds}
use Rattle.keys.specs.RoomLaws.{table_fits, held_put}
use Rattle.keys.specs.declared.counts.Counts.{Counts}
use Rattle.keys.specs.declared.look.Look.{Look}
use Rattle.keys.specs.declared.look.TableRows.{TableRows}

module _ (l : TableRows) (g : Given) (c : Counts) (b : KeyBufs) (ok : Good c b) (k : ℕ) (seen : Look) (q : seen ≡ look (key_env_of l g) (keys_of c b) k) where
  -- the four tables that a load leaves alone fit
  pub load_fits : holds 40 c.fetched seen.came (row k seen.value) b.fetched ≡ fits (rooms_of b) (loaded (key_env_of l g) (keys_of c b) k)
  unfolding fits loaded fetched_with
  load_fits =
      rw (
        ← q,
        table_fits 40 c.changes b.changes ok.changes.table,
        table_fits 32 c.reads b.may_read ok.may_read.table,
        table_fits 32 c.writes b.may_write ok.may_write.table,
        table_fits 32 c.paid b.paid ok.paid.table,
      )
      (sym (both_true (holds 40 c.fetched seen.came (row k seen.value) b.fetched)))

  pub load_ready : (room : Bool) → room ≡ fits (rooms_of b) (loaded (key_env_of l g) (keys_of c b) k) → room ≡ true
      → holds 40 c.fetched seen.came (row k seen.value) b.fetched ≡ true
  load_ready room p r = load_fits ∙ sym p ∙ r

  pub loaded_so : (n : ℕ) (u : List ℕ) → PutIf 40 c.fetched n seen.came (row k seen.value) b.fetched u
      → Leaves (loaded (key_env_of l g) (keys_of c b) k)
      (record { changes = c.changes; fetched = n; reads = c.reads; writes = c.writes; paid = c.paid })
      (key_bufs b.changes u b.may_read b.may_write b.paid)
  unfolding loaded fetched_with
  loaded_so n u p = record {
    are = rw (← q, p.are);
    good = record {
      changes = ok.changes;
      fetched = held_put ok.fetched p;
      may_read = ok.may_read;
      may_write = ok.may_write;
      paid = ok.paid;
    };
  }
