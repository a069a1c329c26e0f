-- A check accepts exactly the whole tables: whole rows, keys strictly rising. Assumes nothing.
use Rattle.std.proofs.Math.Path.{◌≡◌}
use Rattle.std.specs.Prelude.{Bool, List, ℕ, ◌≤◌, length, Some, None}
use Rattle.std.proofs.Math.Bool.{true, false}
use native.Mathlib.Omega.{arith}
use Rattle.std.proofs.Math.Nat.{zero-mul}
use Rattle.words.specs.WholeLaws.{whole_counted, counted_whole, else_refused}
use Rattle.tables.specs.Rows.{rows}
use Rattle.tables.specs.Table.{Table, WholeTable}
use Rattle.tables.specs.Checked.{risingb, checked_of, checked_if}
use Rattle.tables.specs.CheckLaws.{rising_true, true_rising}

module _ (w : ℕ) (t : List ℕ) (h : 32 ≤ w) where
  test : ℕ → Bool
  test n = risingb 0 (rows w n t)

  -- check accepts exactly the whole tables
  pub checks_exactly : (n : ℕ) → (checked_of w t ≡ Some n → WholeTable w n t) × (WholeTable w n t → checked_of w t ≡ Some n)
  unfolding checked_of test
  checks_exactly n = (
    λ e.
        let apart : (k : ℕ) → None ≡ Some k → ⊥ = λ k q. cc in
        let (l, s) = counted_whole test Some None (length t) w (λ m k q. cc) apart n e in
        (l, true_rising 0 (rows w n t) s),
    λ s. whole_counted test Some None (length t) w (omega arith) n s.0 (rising_true 0 (rows w n t) s.1),
  )

  -- what is no whole table is bad
  pub else_bad : ((n : ℕ) → WholeTable w n t → ⊥) → checked_of w t ≡ None
  unfolding checked_of test
  else_bad never = else_refused test Some None (length t) w (λ n l s. never n (l, true_rising 0 (rows w n t) s))

  -- what was accepted can be searched and put into
  pub whole_table : (n : ℕ) → checked_of w t ≡ Some n → Table w n t
  whole_table n e = let (l, s) = (checks_exactly n).0 e in record { wide = h; fits = omega arith; rising = s }

  -- so can one that may be absent
  pub table_if : (present : Bool) (n : ℕ) → checked_if present w t ≡ Some n → Table w n t
  unfolding rows
  table_if true n e = whole_table n e
  table_if false n e = let z : 0 ≡ n = cc in rw (← z) (record { wide = h; fits = omega (arith, zero-mul w); rising = tt })
