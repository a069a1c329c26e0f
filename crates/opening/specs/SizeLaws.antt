-- The sizes of a container, from its layout. Assumes nothing.
use Rattle.std.specs.Prelude.{◌≡◌, Bool, true, ℕ, ◌≤◌, leb}
use Rattle.std.proofs.Common.{◌∙◌, leb-true}
use Rattle.words.specs.Choice.{both}
use Rattle.words.specs.ChoiceLaws.{both_left}
use Rattle.container.specs.Container.{Container}
use Rattle.container.specs.Reader.{layout_of}
use Rattle.container.specs.declared.reader.Layout.{Layout}
use Rattle.opening.specs.Opening.{within}

abbrev pub sized : (code consts entries : ℕ) → Bool
sized code consts entries = both (leb code 65536) (both (leb consts 4096) (leb entries 256))

module _ (l : Layout) (c : Container) (e : l ≡ layout_of c) where
  pub sizes : sized l.code l.consts l.entries ≡ within c
  unfolding layout_of
  sizes = rw e

  pub code_small : within c ≡ true → l.code ≤ 65536
  code_small h = leb-true l.code 65536 (both_left (leb l.code 65536) _ (sizes ∙ h))
