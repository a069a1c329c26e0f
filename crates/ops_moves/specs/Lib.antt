-- what the code claims
pub mod Around
-- laws
pub mod MoveLaws
pub mod JumpLaws
