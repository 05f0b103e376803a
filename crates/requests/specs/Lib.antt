-- The requests on an image, as one type, what they may change, and what their contracts allow.
pub mod Request
pub mod RequestMap
pub mod Changes
pub mod Taken
pub mod Contract
pub mod FileAt
