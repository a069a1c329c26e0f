-- How many zeros there are, with the level given, so that no proof counts them one by one. Assumes nothing.
use Rattle.std.specs.Prelude.{◌≡◌, ℕ, length, replicate}
use Rattle.std.proofs.Common.{sym}
use Rattle.std.proofs.lemmas.List.{length-replicate}

pub as_many : (n : ℕ) → n ≡ length {A = ℕ} (replicate n 0)
as_many n = sym (length-replicate n 0)
