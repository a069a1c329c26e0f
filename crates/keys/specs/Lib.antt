-- definitions
pub mod Known
pub mod Values
pub mod Steps
pub mod Lent
pub mod Opening
pub mod Sound
pub mod Tables
pub mod StorePlans
pub mod LoadPlans
pub mod KeyPlans
-- laws
pub mod SlotLaws
pub mod RoomLaws
pub mod StoreLaws
pub mod LoadLaws
pub mod KeyLaws
pub mod OpeningLaws
