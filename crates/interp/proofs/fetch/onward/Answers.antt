-- `onward` meets its contract. Assumes nothing.
use Rattle.interp.specs.FetchLaws.{price_of_lem, onward_out, onward_far, onward_done}
use Rattle.interp.proofs.fetch.onward.Goals as goal

pub returns-in_default : goal.returns-in_default
returns-in_default c =
    onward_out _ _ _ _ (price_of_lem _ _ _ c.opcode.ensures c.price.ensures) _ c.pay.ensures c.in_default.is

pub returns-then-next-ge4294967296 : goal.returns-then-next-ge4294967296
returns-then-next-ge4294967296 c =
    onward_far _ _ _ _ (price_of_lem _ _ _ c.opcode.ensures c.price.ensures) _ c.pay.ensures _ c.in-Some.is c.if-next-ge4294967296.true

pub returns : goal.returns
returns c =
    onward_done _ _ _ _ (price_of_lem _ _ _ c.opcode.ensures c.price.ensures) _ c.pay.ensures _ c.in-Some.is c.if-next-ge4294967296.false
