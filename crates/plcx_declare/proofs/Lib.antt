pub mod Walks
pub mod Declared
