-- The check of an image, as the tests that the code makes; proofs/ConsistentTestIff.antt has that together they are true exactly if the image is consistent.
pub mod EightBytes
pub mod Walk
pub mod EntryTest
pub mod DifferTest
pub mod MapTest
pub mod ConsistentTest
pub mod Mapped
