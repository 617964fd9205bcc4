pub mod Walks
pub mod Ranks
pub mod Counts
pub mod Classes
