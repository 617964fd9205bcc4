pub mod Given
pub mod Digits
