-- The first bad register from a place on, by the byte there. Assumes nothing.
use Rattle.std.specs.Prelude.{◌≡◌, List, ℕ, ◌+◌, ◌≤◌, ◌<◌, length, get_or, drop, Some}
use Rattle.std.proofs.Common.{◌∙◌}
use borrow.Author.Tests.{le-ltb, lt-ltb}
use Rattle.isa.specs.Codec.{first_bad}
use Rattle.isa.specs.DecodeLaws.{bad_turn}

module _ (s : List ℕ) (i : ℕ) where
  pub bad_here : i < length s → 16 ≤ get_or s i 0 → first_bad (drop i s) ≡ Some (get_or s i 0)
  bad_here h b = bad_turn s i h ∙ rw (le-ltb (get_or s i 0) 16 b)

  pub bad_next : i < length s → get_or s i 0 < 16 → first_bad (drop i s) ≡ first_bad (drop (i + 1) s)
  bad_next h b = bad_turn s i h ∙ rw (lt-ltb (get_or s i 0) 16 b)
