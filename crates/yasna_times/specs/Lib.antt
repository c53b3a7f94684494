pub mod Decimal
pub mod Zone
pub mod Fraction
pub mod Moment
pub mod UtcTime
pub mod GeneralizedTime
pub mod Models
