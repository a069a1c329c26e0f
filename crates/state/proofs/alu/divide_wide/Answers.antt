-- `divide_wide` meets its contract: quotient and remainder divide, and each arm gives what it is told is wanted. Assumes nothing.
use Rattle.state.specs.AluLaws.{quotient_told, rest_told}
use Rattle.state.proofs.alu.divide_wide.Goals as goal

pub returns-in-Quotient : goal.returns-in-Quotient
returns-in-Quotient c = search quotient_told

pub returns-in-Rest : goal.returns-in-Rest
returns-in-Rest c = search rest_told
