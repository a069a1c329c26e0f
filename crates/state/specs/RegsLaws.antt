-- What the proofs of the register operations cite. Assumes nothing.
use Rattle.std.specs.Prelude.{◌≡◌, ℕ, ◌+◌, ◌*◌, ◌^◌, ◌<◌}
use Rattle.std.proofs.Common.{sym, ap, ◌∙◌}
use Rattle.std.proofs.Math.Pow.{low, high}
use Rattle.state.specs.declared.regs.RegFile.{RegFile}
use Rattle.state.specs.Regs.{set_reg, set_wide}

pub set_words : (f g h : RegFile) (lo hi l u : ℕ) → l < 2 ^ 64 → g ≡ set_reg f lo l → h ≡ set_reg g hi u → h ≡ set_wide f lo hi (u * 2 ^ 64 + l)
set_words f g h lo hi l u w p q = q ∙ ap (λ (x : RegFile). set_reg x hi u) p ∙ (λ i. set_reg (set_reg f lo (sym (low u 64 w) i)) hi (sym (high u 64 w) i))
