-- What a `&mut` slice and the front of an array come to that are lent for a call (they say nothing of the crate), how far a list is made, and the whole call.
pub mod LentOn
pub mod Front
pub mod Folds
pub mod Whole
pub mod ManyAnswers
