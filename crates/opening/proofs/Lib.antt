-- The laws of opening and closing.
pub mod OpenRows
pub mod OpenStage
pub mod CloseStage
pub mod OpenWords
pub mod OpenEffect
pub mod CloseEffect
