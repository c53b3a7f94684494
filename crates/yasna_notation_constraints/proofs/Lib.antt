mod Saturating
pub mod ReadingDefaults
mod TestedTexts
mod Signs
