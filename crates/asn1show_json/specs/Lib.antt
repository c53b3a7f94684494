pub mod Json
pub mod Open
