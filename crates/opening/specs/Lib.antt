-- Opening and closing files.
pub mod OpenRows
pub mod Open
pub mod CloseRows
pub mod Close
