-- Formatted binary lines.
pub mod BinaryLine
pub mod BinaryRead
pub mod BinaryCases
pub mod InParts
pub mod BinaryRoundTrip
pub mod BinaryReadingRows
pub mod BinaryReading
pub mod BinaryWriting
pub mod Heading
pub mod Fetching
pub mod BinaryPart
pub mod BinaryAnswers
