-- The laws of APPND.
pub mod AppndRows
pub mod AppndStage
pub mod AppndWrites
pub mod AppndAccepted
pub mod AppndAnswers
pub mod AppndMiddle
pub mod AppndJoined
pub mod AppndEffect
pub mod AppndOwners
