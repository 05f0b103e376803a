-- What every call's answer obeys: refusals in their order, what may be missing, and the two ways of a conversion.
pub mod Refusals
pub mod Missing
pub mod Conversion
pub mod Stage
