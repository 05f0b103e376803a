-- The laws of the check.
pub mod EightBytes
pub mod WalkTaking
pub mod WalkSystem
pub mod WalkSteps
pub mod EntryTestFields
pub mod EntryTestWhole
pub mod DifferTest
pub mod ConsistentTestScan
pub mod EntryTestAnswers
pub mod MapTestBits
pub mod MapTest
pub mod ConsistentTestIff
pub mod ConsistentTestFiles
pub mod ConsistentTestOpened
pub mod MappedLent
