-- Sides of a line, and the whole line.
pub mod Located
pub mod Sought
pub mod SoughtJoined
