-- Radix-50: characters and their codes, words of three, legal names and extensions, RADPK and RADUP.
pub mod Characters
pub mod Packing
pub mod Names
pub mod NamesTest
pub mod Radpk
pub mod Radup
pub mod Unpacking
