-- The laws of what stays.
pub mod FileChainWays
pub mod EntrySame
pub mod ChangesWritten
pub mod FramedCompose
pub mod FramedStays
pub mod ConsistentAlike
pub mod FramedHeld
pub mod FramedConsistent
pub mod Described
pub mod UntouchedFramed
pub mod OwnerFramed
pub mod FramedWritten
pub mod FramedMap
pub mod GrowthChain
pub mod GrowthResized
pub mod GrowthConsistent
