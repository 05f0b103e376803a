-- The laws of the listing and of the printed report.
pub mod Put
pub mod PutSpelled
pub mod PiecesLines
pub mod Listing
pub mod ListingLength
pub mod ListingExample
pub mod ReportText
