pub mod FilterReading
pub mod FilterWriting
