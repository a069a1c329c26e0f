-- definitions
pub mod Faults
pub mod Alu
pub mod Regs
pub mod Memory
pub mod Stack
pub mod Bench
pub mod Answers
-- laws
pub mod AluLaws
pub mod RegsLaws
pub mod RegionLaws
pub mod MemoryLaws
pub mod StackLaws
-- theorems
pub mod RegsTheorems
pub mod FaultTheorems
pub mod StackTheorems
pub mod BenchTheorems
