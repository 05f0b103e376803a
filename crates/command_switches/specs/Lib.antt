-- The bytes of switches: Encoded is what is promised of them. SwitchesWritten and SwitchesMeasured are means of the writer.
pub mod Encoded
pub mod SwitchesWritten
pub mod SwitchesMeasured
