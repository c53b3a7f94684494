pub mod Pair
pub mod Numbers
pub mod Items
pub mod Times
pub mod Algorithm
pub mod Branches
pub mod Tickets
pub mod Scrypt
