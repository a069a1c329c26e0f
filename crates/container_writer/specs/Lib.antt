-- definitions
pub mod Writer
pub mod Answers
-- what the code claims
pub mod WriterParts
-- laws
pub mod WriterLaidLaws
pub mod WriterLaws
pub mod WriterSizeLaws
pub mod WriterAnswerLaws
pub mod WriterWidthLaws
-- theorems
pub mod WriterTheorems
pub mod ReadBackTheorems
pub mod WrittenTheorems
pub mod ExactlyTheorems
