-- APPND.
pub mod AppndRows
pub mod Appnd
pub mod AppndStage
