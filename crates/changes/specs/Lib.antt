-- definitions
pub mod ChangeList
pub mod Merge
-- what the code claims
pub mod Changed
pub mod RowPut
-- laws
pub mod AnswerLaws
pub mod LeftLaws
pub mod WriteLaws
pub mod MergeLaws
-- theorems
pub mod MergeTheorems
