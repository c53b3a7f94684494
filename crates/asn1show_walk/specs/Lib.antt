pub mod Listing
pub mod WellFormed
pub mod Stops
pub mod Errors
pub mod Reading
