-- Command lines: LineCharacters, Parsed, Grammar, Bounded, Reading and LinePlace are what is believed of them. Reader and Keeps are means of the code and
-- of the proofs.
pub mod LineCharacters
pub mod Parsed
pub mod Grammar
pub mod Bounded
pub mod Reading
pub mod LinePlace
pub mod Reader
pub mod Keeps
