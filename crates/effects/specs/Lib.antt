-- definitions
pub mod Log
pub mod ReadBack
pub mod Appended
pub mod Targets
pub mod Counts
-- what the code claims
pub mod Trailers
-- laws
pub mod LogLaws
pub mod AppendLaws
pub mod TrailerLaws
pub mod WalkLaws
pub mod TargetLaws
pub mod CountLaws
-- theorems
pub mod LogTheorems
pub mod TargetTheorems
