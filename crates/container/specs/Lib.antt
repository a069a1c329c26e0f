-- definitions
pub mod Container
pub mod Canonical
pub mod Reader
pub mod Offsets
pub mod Answers
-- what the code claims
pub mod Entries
pub mod LaidOut
-- laws
pub mod ParseLaws
pub mod EntryLaws
pub mod EntryToldLaws
pub mod EntriesLaws
pub mod ReaderLaws
pub mod ReadToldLaws
pub mod OffsetLaws
-- theorems
pub mod CaseTheorems
