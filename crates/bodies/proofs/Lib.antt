-- The laws of the bytes of blocks.
pub mod BlockBytes
pub mod Payloads
pub mod BufferSizes
pub mod BlockWalk
pub mod EntryChain
pub mod EntryChainLinked
