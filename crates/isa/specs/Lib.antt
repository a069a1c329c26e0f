-- definitions
pub mod Table
pub mod Forms
pub mod Kinds
pub mod Flow
pub mod Refers
pub mod Codec
pub mod Reads
pub mod Cursor
pub mod Answers
pub mod Range
-- what the code claims
pub mod Shapes
-- laws
pub mod ToldLaws
pub mod TestLaws
pub mod ComputedLaws
pub mod TableLaws
pub mod FormLaws
pub mod PriceLaws
pub mod CursorLaws
pub mod DecodeLaws
pub mod ShapeLaws
pub mod EncodeLaws
pub mod RefersLaws
-- theorems
pub mod RoundTripTheorems
pub mod RefusalTheorems
pub mod ReadsTheorems
