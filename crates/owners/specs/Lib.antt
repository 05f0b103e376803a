-- What is said of the owners of blocks beyond the pack's own definitions.
pub mod OneOwner
pub mod Seen
pub mod OwnerQuestionRows
pub mod OwnerQuestion
