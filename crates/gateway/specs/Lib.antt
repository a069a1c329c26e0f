-- definitions
pub mod Boundary
pub mod Words
pub mod Gateway
-- laws
pub mod BoundaryLaws
pub mod GatewayLaws
