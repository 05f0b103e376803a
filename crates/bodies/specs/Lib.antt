-- The bytes of blocks.
pub mod BlockBytes
pub mod Payloads
pub mod BufferSizes
pub mod EntryChain
pub mod BlockWalk
