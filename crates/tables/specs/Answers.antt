-- Document 01's number of each answer about a table: 0 when done.
use Rattle.std.specs.Prelude.{ℕ, Option, Some, None}

-- 45 BadTable
unfoldable pub checked_number : Option ℕ → ℕ
checked_number (Some n) = 0
checked_number None = 45

-- 48 NoRoom
unfoldable pub stored_number : Option ℕ → ℕ
stored_number (Some n) = 0
stored_number None = 48
