pub mod Conforming
pub mod Meeting
