pub mod Shown
pub mod Pous
