-- The words of a slice of bytes, and bytes written as a text.
pub mod Word
pub mod Text
