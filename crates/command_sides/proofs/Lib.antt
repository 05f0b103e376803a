-- The laws of sides, and of the whole line.
pub mod SoughtChoices
pub mod SoughtCommas
pub mod SoughtJoins
pub mod SoughtLines
pub mod SoughtWhole
