pub mod Counts
pub mod Told
pub mod LoadFails
pub mod Memory
