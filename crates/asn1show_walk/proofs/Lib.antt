pub mod Lines
pub mod Reading
pub mod WellFormed
pub mod Header
pub mod Stops
pub mod WalkFails
pub mod OneElement
