-- The laws of the parts: what each reader finds, as the code comes upon it.
pub mod CappedParts
pub mod Passed
pub mod PassedDevice
pub mod PassedFile
pub mod PassedHead
pub mod PassedUic
pub mod MadeFront
pub mod MadeUic
pub mod PassedValues
pub mod PassedSwitches
pub mod PassedParts
pub mod Specified
