-- The laws of what is free in a pack, of blocks that are cleared, and of bits made on the map.
pub mod RoomHighest
pub mod RoomMapRun
pub mod RoomMapCount
pub mod RoomMapTaken
pub mod RoomMapMarked
pub mod RoomMapGiven
pub mod RoomNeeds
pub mod Cleared
pub mod ClearedRun
pub mod ClearedKept
pub mod MapMarking
pub mod Taken
