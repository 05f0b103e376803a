-- What is free in a pack: as the paper says it, and on a map; and blocks that are cleared.
pub mod RoomTest
pub mod Room
pub mod RoomMap
pub mod Cleared
