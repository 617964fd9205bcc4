pub mod Ranges
pub mod Steps
pub mod Inputs
pub mod Networks
pub mod Doing
