-- The checks that verify makes, as answers of the code.
use Rattle.std.specs.Prelude.{◌≡◌, List, ℕ, Option, Some, None, Result, Ok, Err}
use Rattle.container.specs.Container.{Entry}
use Rattle.container.specs.Entries.{placed}
use Rattle.starts.specs.Marks.{Holds}
use Rattle.container_verify.specs.Verify.{entry_refusal}
use Rattle.container.specs.declared.entries.EntryLayout.{EntryLayout}
use Rattle.container_verify.specs.declared.verify.VerifyError.{VerifyError}

unfoldable pub as_check : Option VerifyError → Result Unit VerifyError
as_check None = Ok tt
as_check (Some e) = Err e

-- what an entry's check answers, after the selectors seen
abbrev pub Answers : (map seen : List ℕ) → EntryLayout → Result Unit VerifyError → Type 0
Answers map seen l r = (starts : List ℕ) (at : ℕ) (x : Entry) → Holds map starts → l ≡ placed at x → r ≡ as_check (entry_refusal seen starts x)
