-- Document 02 §8: moving packs between forms. `MovedParts` and `LinkWalk` only serve the code.
pub mod Ways
pub mod Moved
pub mod Moving
pub mod MovedParts
pub mod LinkWalk
