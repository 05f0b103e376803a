-- The laws of Radix-50.
pub mod Characters
pub mod CharactersRow
pub mod Packing
pub mod NamesTest
pub mod NamesTestFilled
pub mod Names
pub mod RadpkCases
pub mod RadupCases
pub mod RadpkRadup
pub mod UnpackingHeld
pub mod UnpackingWeights
