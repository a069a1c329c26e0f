-- what the code claims
pub mod EffectRules
-- laws
pub mod PriceLaws
pub mod AppendLaws
pub mod PostLaws
