-- The laws of the pack: its forms, measures and header, its files, keys and entries, the entries' words that are written, and the free map.
pub mod FormBounds
pub mod GeometryRoom
pub mod HeaderTestWords
pub mod HeaderTestMeasures
pub mod HeaderTestWhole
pub mod HeaderRules
pub mod FileCount
pub mod FileChain
pub mod KeySame
pub mod EntryRead
pub mod EntryWordsWritten
pub mod ConsistentTotal
pub mod MapBits
pub mod MapSet
pub mod MapSays
pub mod ConsistentHeld
