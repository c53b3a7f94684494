pub mod Spacing
pub mod Items
pub mod Lexing
pub mod Tree
pub mod Parsing
pub mod Places
pub mod Printing
