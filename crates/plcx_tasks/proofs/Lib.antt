pub mod Once
pub mod Owned
pub mod Following
pub mod Keeping
pub mod Advancing
pub mod Putting
pub mod Stepping
