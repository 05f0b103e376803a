-- The pack image, rule by rule as document 01 has it under 'The pack image'.
pub mod Form
pub mod Geometry
pub mod GeometrySized
pub mod Header
pub mod HeaderTest
pub mod File
pub mod KeyTest
pub mod Key
pub mod Entry
pub mod EntryFields
pub mod EntryWords
pub mod Map
pub mod Consistent
pub mod MapSays
pub mod Owner
pub mod Untouched
