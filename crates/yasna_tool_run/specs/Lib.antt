pub mod Failures
pub mod Ends
pub mod Engine
pub mod Words
pub mod Kinds
