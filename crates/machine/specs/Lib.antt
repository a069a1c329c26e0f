-- definitions
pub mod Machine
pub mod Steps
pub mod Rules
pub mod Actions
pub mod MoveRules
pub mod JumpRules
pub mod StorageRules
pub mod PostRules
pub mod CryptoRules
pub mod Turns
pub mod Lent
pub mod Trace
pub mod Grants
-- what is sound, and what the code claims of a rule
pub mod Sound
pub mod RunParts
pub mod Does
-- laws
pub mod SoundLaws
pub mod StackLaws
pub mod ToldLaws
pub mod KeysLaws
pub mod CostLaws
