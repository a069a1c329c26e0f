-- definitions
pub mod Targets
pub mod Verify
pub mod Answers
-- what the code claims
pub mod Checks
-- laws
pub mod TargetLaws
pub mod CheckLaws
pub mod VerifyLaws
-- theorems
pub mod CaseTheorems
