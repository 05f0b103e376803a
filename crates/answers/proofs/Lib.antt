-- The laws of answers.
pub mod Refusals
pub mod RefusalsTests
pub mod RefusalsLadder
pub mod Conversion
pub mod Missing
pub mod Stage
