-- The laws of owners: whose a block is, and that system, held and free blocks make up the pack.
pub mod OwnerPlaces
pub mod EntryBlocks
pub mod OneOwner
pub mod OwnerSearch
pub mod OwnerSum
pub mod OwnerQuestionStage
pub mod OwnerQuestionEffect
