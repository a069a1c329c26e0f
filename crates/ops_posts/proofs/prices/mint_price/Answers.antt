-- `prices::mint_price` meets its contract: an event that is no mint has no target. Assumes nothing.
use mathlib.Core.Path.{sym}
use native.Mathlib.Omega.{arith}
use lib.Seq.{length-take-le}
use borrow.Author.Tests.{eq-eqb, ne_eqb, le-leb, lt-leb}
use Rattle.effects.specs.Targets.{target_of, mints, mint_word}
use Rattle.machine.specs.PostRules.{target_price}
use Rattle.ops_posts.proofs.prices.mint_price.Goals as goal

pub returns-then-word-ne-MINT : goal.returns-then-word-ne-MINT
unfolding target_price target_of mints
returns-then-word-ne-MINT c = (omega arith, λ es sm b. rw (ne_eqb _ mint_word c.if-word-ne-MINT.true))

pub returns-then-bytes-lt40 : goal.returns-then-bytes-lt40
unfolding target_price target_of mints
returns-then-bytes-lt40 c = (omega arith, λ es sm b. rw (eq-eqb _ mint_word c.if-word-ne-MINT.false, lt-leb 40 _ c.if-bytes-lt40.true))

pub slice_bounds-target_price-end : goal.slice_bounds-target_price-end
slice_bounds-target_price-end c = sym (length-take-le 32 c.args.bytes.now (omega arith))

pub returns : goal.returns
unfolding target_of mints
returns c =
    let p = c.target_price.ensures in
    (p.0, λ es sm b. rw (eq-eqb _ mint_word c.if-word-ne-MINT.false, le-leb 40 _ c.if-bytes-lt40.false) (p.1 es sm b))
