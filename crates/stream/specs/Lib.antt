-- The payloads of a linked file as one stream of bytes: a spot in it, gathering, adding several blocks.
pub mod Gather
pub mod AddedAll
pub mod BytesWriting
pub mod Spot
pub mod Tail
pub mod BytesReading
pub mod BytesReadingRows
pub mod Filling
