-- The parts of a specification: Numbers is what CSI2 gives of them; the others are means of their readers.
pub mod Numbers
pub mod Specified
pub mod Passing
pub mod Passed
pub mod CappedParts
pub mod Made
