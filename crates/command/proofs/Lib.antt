-- The laws of CSI1 and CSI2. The files Only, Causes, Found and Then of each, and those of Known, are what a reader wants, the rest is how they and
-- the code are proved.
pub mod Condensed
pub mod Judged
pub mod GivenAt
pub mod Csi1Stage
pub mod Csi1Only
pub mod Csi1Causes
pub mod Csi2Stage
pub mod Csi2Only
pub mod Csi2Found
pub mod KnownDecoded
pub mod KnownSides
pub mod KnownReading
pub mod Csi1Then
