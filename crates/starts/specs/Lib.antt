-- definitions
pub mod Starts
pub mod Walk
pub mod Marks
-- laws
pub mod SweepLaws
pub mod MarkLaws
