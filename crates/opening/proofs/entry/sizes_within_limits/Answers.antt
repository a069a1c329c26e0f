-- `sizes_within_limits` meets its contract, size by size. Assumes nothing.
use Rattle.std.proofs.Common.{◌∙◌}
use borrow.Author.Tests.{le-leb, lt-leb}
use Rattle.opening.specs.SizeLaws.{sizes}
use Rattle.opening.proofs.entry.sizes_within_limits.Goals as goal

pub returns-then-l-le4096 : goal.returns-then-l-le4096
returns-then-l-le4096 c = λ x e. rw (le-leb _ _ c.if-l-le65536.true, le-leb _ _ c.if-l-le4096.true) at (sizes _ x e)

pub returns-else-l-le4096 : goal.returns-else-l-le4096
returns-else-l-le4096 c = λ x e. lt-leb _ _ c.if-l-le4096.false ∙ rw (le-leb _ _ c.if-l-le65536.true, lt-leb _ _ c.if-l-le4096.false) at (sizes _ x e)

pub returns-else-l-le65536 : goal.returns-else-l-le65536
returns-else-l-le65536 c = λ x e. lt-leb _ _ c.if-l-le65536.false ∙ rw (lt-leb _ _ c.if-l-le65536.false) at (sizes _ x e)
