-- The laws of the requests that change one entry at most.
pub mod LookStage
pub mod PermitStage
pub mod RenamRelabelled
pub mod Deleted
pub mod DeletStage
pub mod DeletEffect
pub mod DeletMapped
pub mod KeepStage
pub mod KeepEffect
pub mod RenamStage
pub mod RenamEffect
