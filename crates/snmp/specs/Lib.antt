pub mod V1Errors
pub mod V2cErrors
pub mod Traps
