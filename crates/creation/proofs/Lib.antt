-- The laws of requests that make something.
pub mod FormatMeasures
pub mod FormatSteps
pub mod FormatBytes
pub mod FormatRows
pub mod FormatEffect
pub mod AllocBlocks
pub mod CreatingLowest
pub mod CreatingStage
pub mod CreatingWritten
pub mod OpenoStage
pub mod AllocStage
pub mod CreatingEffect
pub mod OpenoEffect
pub mod AllocEffect
pub mod AllocMap
