-- `qvm_for_genesis` meets its contract: it is the call that its arguments make. Assumes nothing.
use Rattle.gateway.specs.GatewayLaws.{same_call}
use Rattle.gateway.proofs.calls.qvm_for_genesis.Goals as goal

pub returns : goal.returns
returns c = same_call _ _ _ _ _ _ _ _ _ _ c.for_genesis.ensures c.answer_call.ensures
