pub mod Subidentifiers
pub mod Contents
