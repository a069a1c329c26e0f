-- definitions
pub mod Ascii
pub mod Decimal
pub mod Hex
pub mod Number
-- laws
pub mod DecimalLaws
pub mod LaidLaws
pub mod HexLaws
pub mod NumberLaws
-- theorems
pub mod CaseTheorems
