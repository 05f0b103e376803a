-- What is known of bytes read into a part of a buffer.
pub mod Parts
