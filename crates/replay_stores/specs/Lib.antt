-- laws
pub mod FrontLaws
