-- `prices::price` meets its contract: one price for a transfer, the sum of three for an event. Assumes nothing.
use native.Mathlib.Omega.{arith}
use Rattle.ops_posts.specs.PriceLaws.{event_small, transfer_price, event_sum}
use Rattle.ops_posts.proofs.prices.price.Goals as goal

pub returns-then-kind-eq0 : goal.returns-then-kind-eq0
returns-then-kind-eq0 c =
    let a = c.args in
    λ es sm b q. transfer_price a.kind a.word a.bytes.now es _ c.if-kind-eq0.true (c.target_price.ensures.1 es sm b)

pub overflow_add-result-2 : goal.overflow_add-result-2
overflow_add-result-2 c =
    omega (arith, event_small c.args.events _ c.event_price.ensures, c.mint_price-mint.ensures.0)

pub returns : goal.returns
returns c =
    let a = c.args in
    λ es sm b q. event_sum a.kind a.word a.bytes.now es _ a.events _ (omega arith) (c.mint_price-mint.ensures.1 es sm b) c.event_price.ensures q
