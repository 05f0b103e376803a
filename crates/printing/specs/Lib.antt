-- The listing's text, the report's, and what it is to put a piece of them into a buffer.
pub mod Listing
pub mod ListingExample
pub mod Pieces
pub mod Survey
pub mod Put
pub mod ReportText
pub mod ReportPieces
