-- The laws of linked add.
pub mod LinkedAddStage
pub mod LinkedAddAsked
pub mod LinkedAddWrites
pub mod LinkedAddEnlarged
pub mod LinkedAddMap
pub mod LinkedAddTaken
pub mod LinkedAddAnswers
pub mod LinkedAddEffect
pub mod LinkedAddAgain
pub mod LinkedAddOwners
