-- `qvm_for_entry` meets its contract: it is the call that its arguments make. Assumes nothing.
use Rattle.gateway.specs.GatewayLaws.{same_call}
use Rattle.gateway.proofs.calls.qvm_for_entry.Goals as goal

pub returns : goal.returns
returns c = same_call _ _ _ _ _ _ _ _ _ _ c.for_entry.ensures c.answer_call.ensures
