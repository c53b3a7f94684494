pub mod Conformance
pub mod Input
