-- The laws of Finish.
pub mod ScratchTestPasses
pub mod ScratchTestDelet
pub mod ScratchTestIff
pub mod Spared
pub mod FinishKeys
pub mod FinishSwept
pub mod FinishSweptOwners
pub mod FinishEffect
pub mod FinishLoop
pub mod FinishStage
