pub mod Items
pub mod Runs
pub mod Texts
pub mod Spacings
pub mod Tokens
pub mod Errors
pub mod Depths
