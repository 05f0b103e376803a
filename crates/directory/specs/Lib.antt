-- Requests that change one entry at most.
pub mod LookRows
pub mod Look
pub mod PermitRows
pub mod DeletRows
pub mod Delet
pub mod DeletMap
pub mod KeepRows
pub mod Keep
pub mod RenamRows
pub mod Renam
