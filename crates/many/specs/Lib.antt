-- Many requests in one call: the records as bytes, and the call.
pub mod Layout
pub mod Many
pub mod ManyStep
