-- Writing command lines: what a line says as characters, the records of a reading, and what is answered; the records that a host has of a line, and what
-- becomes of them when they are written. Sayable and those behind it are means of the code.
pub mod WrittenLine
pub mod Records
pub mod Writing
pub mod CsiWrite
pub mod AskedRecords
pub mod WrittenBack
pub mod Sayable
pub mod Standing
pub mod LaidText
pub mod PartFits
