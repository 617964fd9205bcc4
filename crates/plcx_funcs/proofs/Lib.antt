pub mod Below
pub mod Counts
pub mod Found
pub mod Kept
pub mod Products
pub mod Ranges
