-- definitions
pub mod Refusals
pub mod Choice
pub mod Lists
pub mod Bytes
pub mod Laid
pub mod Whole
pub mod Wide
-- laws
pub mod ChoiceLaws
pub mod BytesLaws
pub mod LaidLaws
pub mod WholeLaws
pub mod WideLaws
