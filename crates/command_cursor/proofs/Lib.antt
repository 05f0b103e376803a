-- The laws of a cursor, and of what stands between two places of a line.
pub mod Carried
pub mod Classes
pub mod CappedOctal
pub mod NumberAt
pub mod CursorAtSteps
pub mod FilledWord
pub mod CursorAtRuns
pub mod FilledWordLegal
pub mod FilledWordNames
