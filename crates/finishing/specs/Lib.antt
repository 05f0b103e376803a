-- Finish: the files that it removes, and what it leaves.
pub mod ScratchTest
pub mod FinishRows
pub mod Finish
pub mod Spared
