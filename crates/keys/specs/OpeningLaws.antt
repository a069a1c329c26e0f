-- Zeroed tables hold no rows. Assumes nothing.
use Rattle.std.specs.Prelude.{◌≡◌, refl, List, ℕ, ◌*◌, ◌-◌, ◌≤◌, length, replicate}
use Rattle.std.proofs.Common.{arith, zero-mul}
use Rattle.tables.specs.Rows.{rows}
use Rattle.keys.specs.Lent.{KeyBufs, keys_of}
use Rattle.keys.specs.Sound.{Held, Good}
use Rattle.keys.specs.Opening.{no_rows, no_keys}

-- every byte is 0
abbrev pub Zero : List ℕ → Type 0
Zero t = t ≡ replicate (length t) 0

-- in every table
pub record Wiped (b : KeyBufs) : Type 0 where
  pub changes : Zero b.changes
  pub fetched : Zero b.fetched
  pub may_read : Zero b.may_read
  pub may_write : Zero b.may_write
  pub paid : Zero b.paid

held_none : (w : ℕ) (t : List ℕ) → 32 ≤ w → Zero t → Held w 0 t
unfolding rows
held_none w t h z =
    let e : 0 * w ≡ 0 = zero-mul w in
    let n : length t - 0 ≡ length t = omega arith in
    record { table = record { wide = h; fits = omega (arith, e); rising = tt }; rest = rw (e, n) z }

pub opening_good : (b : KeyBufs) → Wiped b → Good no_rows b
opening_good b z = record {
  changes = held_none 40 b.changes (omega arith) z.changes;
  fetched = held_none 40 b.fetched (omega arith) z.fetched;
  may_read = held_none 32 b.may_read (omega arith) z.may_read;
  may_write = held_none 32 b.may_write (omega arith) z.may_write;
  paid = held_none 32 b.paid (omega arith) z.paid;
}

pub opening_keys : (b : KeyBufs) → keys_of no_rows b ≡ no_keys
unfolding rows
opening_keys b = refl
