-- Document 01's number for each answer about replies: 0 when done.
use Rattle.std.specs.Prelude.{ℕ, Option, Some, None}

-- 46 BadReply
unfoldable pub replies_number : Option ℕ → ℕ
replies_number (Some n) = 0
replies_number None = 46
