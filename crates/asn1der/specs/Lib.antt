pub mod Pem
pub mod Written
