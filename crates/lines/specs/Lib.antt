-- definitions
pub mod Names
pub mod VerdictLine
pub mod AnswerLines
pub mod EffectLines
-- laws
pub mod NameLaws
pub mod VerdictLaws
pub mod AnswerLaws
pub mod EffectLaws
pub mod NewestLaws
-- theorems
pub mod CaseTheorems
