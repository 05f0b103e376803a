-- Lines of text over linked files.
pub mod TextBytes
pub mod LineRead
pub mod LineSteps
pub mod Reader
pub mod ReadOn
pub mod LineWrite
pub mod LineRoundTrip
pub mod LineReadingRows
pub mod LineReading
pub mod LineWriting
pub mod LineAnswers
