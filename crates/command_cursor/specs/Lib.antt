-- A cursor over a line, and what stands between two places of it: FilledWord is the words of names. Part, CursorAt, Capped and NumberAt are means of the
-- code.
pub mod Part
pub mod CursorAt
pub mod FilledWord
pub mod Capped
pub mod NumberAt
