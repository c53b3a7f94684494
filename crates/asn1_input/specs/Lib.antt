pub mod Text
pub mod Blocks
pub mod Hex
pub mod Input
pub mod Reader
pub mod Pieces
