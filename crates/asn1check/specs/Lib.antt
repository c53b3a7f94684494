pub mod Rewriting
pub mod Messages
pub mod Kinds
