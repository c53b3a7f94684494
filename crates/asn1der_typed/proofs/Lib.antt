pub mod Appending
pub mod BitStrings
pub mod Defaults
