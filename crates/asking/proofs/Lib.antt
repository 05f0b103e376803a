-- The laws of keys and finding, of rights, opens, outcomes, stages and access.
pub mod Keys
pub mod KeysLegal
pub mod Rights
pub mod Outcome
pub mod AskedStage
pub mod Opens
pub mod AskedCleared
pub mod Verdicts
pub mod AccessRows
pub mod AccessStage
