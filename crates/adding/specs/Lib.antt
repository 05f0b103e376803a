-- Linked add.
pub mod LinkedAddRows
pub mod LinkedAdd
pub mod LinkedAddStage
