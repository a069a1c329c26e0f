-- what the code claims
pub mod Answered
-- laws
pub mod ConditionLaws
pub mod LoadLaws
pub mod StoreLaws
pub mod RegionLaws
