-- what the code claims
pub mod Sound
