-- What an instruction or an opening costs beyond its base price (document 01, The run; meter.rs). Subtractions stop at 0.
use Rattle.std.specs.Prelude.{ℕ, ◌+◌, ◌-◌, ◌*◌, ◌/◌}

-- a hash of n bytes: 40 for each block of 136 that its sponge takes in
abbrev pub hash_price : ℕ → ℕ
hash_price n = 40 * (n / 136 + 1)

-- a signature over a message: the same for what register b holds beyond the scheme's signed bytes
abbrev pub message_price : (b signed : ℕ) → ℕ
message_price b signed = 40 * ((b - signed) / 136 + 1)

-- a Merkle path: 50 for each whole 32 bytes beyond the header of 72
abbrev pub merkle_price : ℕ → ℕ
merkle_price b = 50 * ((b - 72) / 32)

-- opening a container with n bytes of code
abbrev pub dispatch_price : ℕ → ℕ
dispatch_price n = 4 + 9 * n
