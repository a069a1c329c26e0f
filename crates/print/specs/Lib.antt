-- laws
pub mod ZeroLaws
