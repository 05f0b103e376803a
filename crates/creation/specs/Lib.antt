-- Requests that make something.
pub mod FormatRows
pub mod Formattable
pub mod Format
pub mod FormatSteps
pub mod CreatingLowest
pub mod CreatingRows
pub mod Creating
pub mod CreatingStage
pub mod AllocRows
pub mod Rounding
pub mod Alloc
pub mod AllocStage
pub mod AllocMap
pub mod OpenoRows
pub mod Openo
