-- Laws and theorems that rest on definitions of specs/.
pub mod BillLaws
pub mod RightsLaws
pub mod CallTheorems
pub mod CarriedTheorems
pub mod CaseTheorems
