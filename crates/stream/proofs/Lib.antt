-- Laws about streams of bytes.
pub mod Gather
pub mod GatherCompose
pub mod SpotSteps
pub mod SpotPayload
pub mod AddedAll
pub mod FillingSteps
pub mod FillingLoop
pub mod BytesWritingStage
pub mod BytesWritingAnswers
pub mod BytesWritingEffect
pub mod SpotAsked
pub mod BytesReadingStage
