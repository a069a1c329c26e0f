-- definitions
pub mod Accounts
pub mod Grown
pub mod Promised
-- laws
pub mod OpenedLaws
pub mod CountingLaws
pub mod FetchedLaws
pub mod GrowthLaws
pub mod RunGrowthLaws
-- theorems
pub mod DeterminedTheorems
pub mod CaseTheorems
