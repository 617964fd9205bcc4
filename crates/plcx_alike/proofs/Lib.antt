pub mod Values
pub mod Behind
