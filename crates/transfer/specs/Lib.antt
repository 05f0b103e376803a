-- Parts of the image handed over.
pub mod BlockRows
pub mod Block
pub mod LinkedReadRows
pub mod LinkedRead
