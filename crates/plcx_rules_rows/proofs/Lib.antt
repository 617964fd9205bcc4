pub mod Rounds
pub mod Walks
pub mod Checking
pub mod Computing
