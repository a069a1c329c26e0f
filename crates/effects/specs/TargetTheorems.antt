-- What has a target, by cases. Assumes nothing.
use Rattle.std.specs.Prelude.{◌≡◌, refl, false, List, [], ◌∷◌, ℕ, ◌≤◌, ◌<◌, length, take, Some, None}
use Rattle.std.proofs.Common.{le-leb}
use Rattle.std.proofs.lemmas.Bool.{lt-leb}
use Rattle.words.specs.Bytes.{be_bytes}
use Rattle.effects.specs.Targets.{mint_word, mints, target_of, is_target}

-- the word of a mint is the bytes MINT, then four zeros
pub mint_bytes : be_bytes 8 mint_word ≡ 77 ∷ 73 ∷ 78 ∷ 84 ∷ 0 ∷ 0 ∷ 0 ∷ 0 ∷ []
unfolding be_bytes
mint_bytes = refl

-- equal bytes of the two kinds are two targets
pub two_kinds : (b : List ℕ) → is_target (record { kind = 0; bytes = b }) (Some (record { kind = 1; bytes = b })) ≡ false
unfolding is_target
two_kinds b = refl

module _ (b : List ℕ) where
  -- from 40 bytes on a mint has a target
  pub mint_long : 40 ≤ length b → target_of (record { kind = 1; word = mint_word; bytes = b }) ≡ Some (record { kind = 1; bytes = take 32 b })
  unfolding target_of mints
  mint_long h = rw (le-leb 40 (length b) h)

  -- below it has none
  pub mint_short : length b < 40 → target_of (record { kind = 1; word = mint_word; bytes = b }) ≡ None
  unfolding target_of mints
  mint_short h = rw (lt-leb 40 (length b) h)
