-- The bound of a call's counts. Assumes nothing.
use Rattle.std.specs.Prelude.{List, ℕ, ◌+◌, ◌^◌, ◌≤◌, ◌<◌, length, take, drop}
use Rattle.std.proofs.Common.{arith, length-drop, get_or-drop}
use Rattle.words.specs.Bytes.{Bytes, num}
use Rattle.words.proofs.BytesTheorems.{num_below}

-- a count of four bytes
pub four_below : (s : List ℕ) (at : ℕ) → at + 4 ≤ length s → Bytes s → num (take 4 (drop at s)) < 2 ^ 32
four_below s at h b = num_below 4 (drop at s) (omega (arith, length-drop at s)) (λ i. rw get_or-drop (b (at + i)))
