pub mod Sizes
pub mod Numbers
pub mod Combined
pub mod Defaults
pub mod TestedDefaults
pub mod OrDefault
pub mod Fields
