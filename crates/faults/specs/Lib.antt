-- The report on a foreign image: the rules of consistency one by one, their order, and the first that fails.
pub mod Rules
pub mod Second
pub mod Report
pub mod Named
pub mod FirstFault
pub mod FaultThere
pub mod Looking
pub mod Counting
