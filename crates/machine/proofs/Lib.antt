-- Laws and theorems that rest on definitions of specs/.
pub mod RuleLaws
pub mod TurnLaws
pub mod TraceLaws
