-- definitions
pub mod CallFile
-- laws
pub mod CallFileLaws
