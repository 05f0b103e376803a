-- The laws of words.
pub mod Word
pub mod WordSlices
