pub mod Growing
pub mod Reaching
pub mod Ordered
