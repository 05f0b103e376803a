-- Requests in a list: the records that name them, what each comes to, and what the whole list leaves.
pub mod Record
pub mod Listed
pub mod RecordStep
