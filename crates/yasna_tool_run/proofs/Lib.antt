pub mod Writes
pub mod Recoded
pub mod Errors
pub mod Statuses
