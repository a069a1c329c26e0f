-- what the code claims
pub mod Answers
pub mod Prices
pub mod Taints
-- laws
pub mod PayLaws
pub mod AskLaws
pub mod CheckLaws
pub mod HashLaws
pub mod TaintLaws
pub mod AuthoriseLaws
