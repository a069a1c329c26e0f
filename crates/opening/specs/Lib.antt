-- definitions
pub mod Opening
-- what the code claims
pub mod Opened
pub mod NotOne
pub mod Parts
-- laws
pub mod TableLaws
pub mod UniqueLaws
pub mod StartLaws
pub mod StandingLaws
pub mod SizeLaws
pub mod OpenLaws
