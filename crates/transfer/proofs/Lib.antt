-- The laws of BLOCK input and output and of linked read.
pub mod BlockStage
pub mod BlockIn
pub mod BlockOut
pub mod BlockWritten
pub mod BlockAgain
pub mod LinkedReadStage
