-- definitions
pub mod Prices
pub mod Meter
-- laws
pub mod Laws
-- theorems
pub mod Theorems
