-- Laws and theorems that rest on definitions of specs/.
pub mod ScanLaws
pub mod StartsLaws
pub mod WalkLaws
