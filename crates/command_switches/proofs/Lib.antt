-- The laws of switches.
pub mod EncodedLength
pub mod SwitchesWrittenWords
pub mod SwitchesWrittenNames
pub mod SwitchesWrittenStanding
pub mod SwitchesWrittenParts
pub mod SwitchesWrittenLoops
pub mod EncodedRoom
pub mod SwitchesMeasured
