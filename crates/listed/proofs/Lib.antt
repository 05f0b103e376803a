-- Which request a record names, how large its answer can be, that what fitted fits, and what the making of one record shows.
pub mod RecordNames
pub mod ListedSmall
pub mod ListedFits
pub mod RecordMade
pub mod RecordBeside
