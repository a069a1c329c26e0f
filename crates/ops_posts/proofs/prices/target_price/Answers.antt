-- `prices::target_price` meets its contract: the log's targets decide. Assumes nothing.
use mathlib.Core.Path.{sym, ◌∙◌}
use native.Mathlib.Omega.{arith}
use Rattle.ops_posts.specs.PriceLaws.{known_free, another_paid, first_free}
use Rattle.ops_posts.proofs.prices.target_price.Goals as goal

pub returns-then-known : goal.returns-then-known
returns-then-known c = (omega arith, λ es sm b. known_free _ es (sym (c.known.ensures es sm b) ∙ c.if-known.true))

pub returns-then-any_target : goal.returns-then-any_target
returns-then-any_target c =
    (omega arith, λ es sm b. another_paid _ es (sym (c.known.ensures es sm b) ∙ c.if-known.false) (sym (c.any_target.ensures es sm b) ∙ c.if-any_target.true))

pub returns : goal.returns
returns c =
    (omega arith, λ es sm b. first_free _ es (sym (c.known.ensures es sm b) ∙ c.if-known.false) (sym (c.any_target.ensures es sm b) ∙ c.if-any_target.false))
