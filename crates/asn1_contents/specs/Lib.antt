pub mod Subidentifiers
pub mod ContentsType
pub mod Contents
pub mod Laws
