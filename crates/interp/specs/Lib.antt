-- definitions
pub mod Call
-- what the code claims
pub mod Ties
pub mod Fetched
pub mod Operated
pub mod Runs
pub mod Wiping
pub mod Begins
pub mod Finished
pub mod Entered
pub mod Held
-- laws
pub mod BufferLaws
pub mod FetchLaws
pub mod OperateLaws
pub mod StepLaws
pub mod RunLaws
pub mod FinishLaws
pub mod EnterLaws
pub mod CallLaws
-- theorems
pub mod CaseTheorems
