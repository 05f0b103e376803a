-- The laws of the grammar: GrammarOne and LinePlace are what a reader wants, the rest is how they and the code are proved.
pub mod ReaderAgree
pub mod ReaderTheory
pub mod ReaderLeaves
pub mod ReaderParts
pub mod ReaderHeads
pub mod ReaderLines
pub mod ReaderSides
pub mod ReaderPlaces
pub mod LinePlace
pub mod Keeps
pub mod GrammarOne
pub mod ReadingSides
