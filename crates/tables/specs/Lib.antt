-- definitions
pub mod Order
pub mod Rows
pub mod Table
pub mod Checked
pub mod Answers
pub mod Walks
pub mod Content
-- laws
pub mod OrderLaws
pub mod SortedLaws
pub mod LayoutLaws
pub mod SearchLaws
pub mod MoveLaws
pub mod StoreLaws
pub mod MadeLaws
pub mod CheckLaws
pub mod TableProps
-- theorems
pub mod RowsTheorems
pub mod TableTheorems
pub mod CheckTheorems
