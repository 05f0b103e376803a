-- What a request may change, and what it keeps.
pub mod Framed
pub mod Framing
pub mod Described
pub mod Growth
